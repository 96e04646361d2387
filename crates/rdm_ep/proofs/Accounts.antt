-- Of eager deeds: the account of a message is what its one packet said, and stays.
use Rattle.std.proofs.Common.{Bool, ◌≡◌, ℕ, zero, suc, ◌-◌, ◌≤◌, true, false, List, [], ◌∷◌, map, length, Option, Some, None, refl, arith, inl, inr, ap, ◌∙◌, sym, take}
use Rattle.std.specs.Prelude.{◌==◌, nat_lt, slice_get, unwrap_or, is_some}
use Rattle.std.proofs.lemmas.Bool.{le-ltb, eq-eqb}
use Rattle.std.proofs.lemmas.List.{map-append}
use Rattle.std.proofs.lemmas.Option.{unwrap_or-slice_get, slice_get-get_or}
use Rattle.std.proofs.Math.Seq.{take-suc, take-length}
use Rattle.rdm_lists.specs.Lists.{or_else, below}
use Rattle.rdm_num.specs.Pieces.{Piece, byte_in, byte_at, covers}
use Rattle.rdm_num.specs.declared.numbers.Life.{Life}
use Rattle.rdm_num.specs.declared.head.Head.{Head}
use Rattle.rdm_hdr.specs.declared.Opt.{Opt}
use Rattle.rdm_num.specs.declared.numbers.MsgNo.{MsgNo}
use Rattle.rdm_pkt.specs.declared.Packet.TheVariants.{Rtm}
use Rattle.rdm_pkt.specs.declared.Form.TheVariants.{Eager}
use Rattle.rdm_pkt.specs.Heads.{shape_of, size_of, head_of, piece_of}
use Rattle.rdm_model.specs.Deeds.{Deed, Took, Spelled}
use Rattle.rdm_model.specs.Beginnings.{Own}
use Rattle.rdm_model.specs.Heard.{head_by, heard_head, is_heard}
use Rattle.rdm_model.specs.Matches.{pairs}
use Rattle.rdm_model.specs.Parts.{piece_by, carried_by, carried_pieces, has_landed}
use Rattle.rdm_model.specs.Local.{heads_by, bytes_by}
use Rattle.rdm_ep.specs.Eager.{IsEager}
use Rattle.rdm_model.proofs.Matches.{heard_still}
use Rattle.rdm_model.proofs.Grows.{heads_by_heard, heads_grow}
use Rattle.rdm_model.proofs.SameMatches.{carried_pieces_same}
use Rattle.rdm_ep.proofs.Told.{whole, heard_came, unheard_nothing, tells_or_silent}
use Rattle.rdm_lists.proofs.Same.{map_same}
use Rattle.rdm_lists.proofs.Below.{each_below_from}
use Rattle.rdm_num.proofs.Lives.{same_life-refl}

-- a place of a whole message
whole_at : (bytes : List ℕ) (place : ℕ) → byte_at (whole bytes ∷ []) place ≡ slice_get bytes place
unfolding byte_at byte_in or_else
whole_at bytes place =
    let a : nat_lt place 0 ≡ false = le-ltb place 0 (omega arith) in
    let b : place - 0 ≡ place = omega arith in
    rw (a, b) (elim (slice_get bytes place) as (λ o. or_else o None ≡ o) [ None ↦ refl | Some x ↦ refl ])

-- the first numbers of a list, read at their places
read_first : (bytes : List ℕ) (n : ℕ) → n ≤ length bytes → map (λ place. unwrap_or (slice_get bytes place) 0) (below n) ≡ take n bytes
unfolding below
read_first bytes zero h = refl
read_first bytes (suc n) h =
    let earlier = read_first bytes n (omega arith) in
    let last = unwrap_or-slice_get bytes n 0 in
    let more = take-suc bytes n 0 (omega arith) in
    map-append (λ place. unwrap_or (slice_get bytes place) 0) (below n) (n ∷ []) ∙ (rw (earlier, last) (sym more))

-- a whole message, read at its places
pub whole_read : (bytes : List ℕ) → map (λ place. unwrap_or (byte_at (whole bytes ∷ []) place) 0) (below (length bytes)) ≡ bytes
whole_read bytes =
    map_same (λ place. unwrap_or (byte_at (whole bytes ∷ []) place) 0) (λ place. unwrap_or (slice_get bytes place) 0) (below (length bytes))
    (λ place m. ap (λ (o : Option ℕ). unwrap_or o 0) (whole_at bytes place))
    ∙ read_first bytes (length bytes) (omega arith) ∙ take-length bytes

-- a whole message has all its places
pub whole_covers : (bytes : List ℕ) → covers (whole bytes ∷ []) (length bytes) ≡ true
unfolding covers
whole_covers bytes =
    each_below_from (λ place. is_some (byte_at (whole bytes ∷ []) place)) (length bytes)
    (λ k lt. rw (whole_at bytes k, slice_get-get_or bytes k 0 lt) refl)

-- pieces that are a whole message have all its places
landed_by : (ps : List Piece) (bytes : List ℕ) (n : ℕ) → ps ≡ whole bytes ∷ [] → n ≡ length bytes → covers ps n ≡ true
landed_by ps bytes n p l = rw (p, l) (whole_covers bytes)

-- pieces that are a whole message are read as its bytes
read_by : (ps : List Piece) (bytes : List ℕ) (n : ℕ) → ps ≡ whole bytes ∷ [] → n ≡ length bytes
    → map (λ place. unwrap_or (byte_at ps place) 0) (below n) ≡ bytes
read_by ps bytes n p l = rw (p, l) (whole_read bytes)

-- what was heard of has landed
pub heard_landed : (own : Own) (log : List Deed) (source : Life) (n : ℕ) (head : Head) → IsEager own log → heard_head log source n ≡ Some head
    → has_landed own.limits.first (heads_by log) log source n ≡ true
unfolding has_landed
heard_landed own log source n head h is =
    let c = heard_came own (heads_by log) log source n head h is in
    let l : (heads_by log source n).length ≡ length c.bytes = ap (λ (x : Head). x.length) (heads_by_heard log source n head is) ∙ c.length_is in
    landed_by (carried_pieces own.limits.first (heads_by log) log source n) c.bytes (heads_by log source n).length c.carried l

-- the bytes of what was heard of are those of its piece
pub heard_bytes : (own : Own) (log : List Deed) (source : Life) (n : ℕ) (head : Head) (bytes : List ℕ) → heard_head log source n ≡ Some head
    → head.length ≡ length bytes → carried_pieces own.limits.first (heads_by log) log source n ≡ whole bytes ∷ [] → bytes_by own.limits.first log source n ≡ bytes
unfolding bytes_by
heard_bytes own log source n head bytes is l p =
    let m : (heads_by log source n).length ≡ length bytes = ap (λ (x : Head). x.length) (heads_by_heard log source n head is) ∙ l in
    read_by (carried_pieces own.limits.first (heads_by log) log source n) bytes (heads_by log source n).length p m

-- what was heard of keeps its head
pub head_stays : (d : Deed) (before : List Deed) (source : Life) (n : ℕ) (head : Head) → heard_head before source n ≡ Some head
    → heads_by (d ∷ before) source n ≡ heads_by before source n
head_stays d before source n head is = sym (heads_grow d before source n head is)

-- what was heard of keeps its bytes
pub bytes_stay : (own : Own) (d : Deed) (before : List Deed) (source : Life) (n : ℕ) (head : Head) → IsEager own (d ∷ before) → heard_head before source n ≡ Some head
    → bytes_by own.limits.first (d ∷ before) source n ≡ bytes_by own.limits.first before source n
unfolding carried_pieces
bytes_stay own d before source n head h is =
    let first = own.limits.first in
    let hs = heads_by (d ∷ before) in
    let c = heard_came own (heads_by before) before source n head h.0 is in
    let same = carried_pieces_same first (heads_by before) hs before source n (heads_grow d before) in
    let now = heard_still d before source n head is in
    let none : carried_by (pairs first hs before) source n d ≡ None =
    elim (tells_or_silent own before (pairs first hs before) source n d h.1) [
      | inl t ↦ let e = t.is_new in cc
      | inr t ↦ t.carried
    ] in
    let p : carried_pieces first hs (d ∷ before) source n ≡ whole c.bytes ∷ [] = rw (← same, none, c.carried) refl in
    heard_bytes own (d ∷ before) source n head c.bytes now c.length_is p ∙ sym (heard_bytes own before source n head c.bytes is c.length_is c.carried)

-- the packet that an eager deed takes is the account of its message
pub record IsTold (own : Own) (log : List Deed) (source : Life) (n : ℕ) (head : Head) (bytes : List ℕ) : Type 0 where
  pub heard : heard_head log source n ≡ Some head
  pub head_is : heads_by log source n ≡ head
  pub bytes_are : bytes_by own.limits.first log source n ≡ bytes

-- what a deed that takes a message in one packet tells of it
pub took_told : (own : Own) (before : List Deed) (from : Life) (number : MsgNo) (tag : Option ℕ) (confirm : Bool) (opt : Opt) (bytes : List ℕ)
    → IsEager own (Took from (Spelled (Rtm number tag confirm opt (Eager bytes))) ∷ before)
    → IsTold own (Took from (Spelled (Rtm number tag confirm opt (Eager bytes))) ∷ before) from number.0 (head_of tag confirm opt (Eager bytes)) bytes
unfolding heard_head is_heard head_by or_else carried_pieces carried_by piece_by piece_of head_of size_of shape_of
took_told own before from number tag confirm opt bytes h =
    let d = Took from (Spelled (Rtm number tag confirm opt (Eager bytes))) in
    let hs = heads_by (d ∷ before) in
    let no : heard_head before from number.0 ≡ None =
    (elim (heard_head before from number.0) as (λ o. is_some o ≡ false → o ≡ None) [ None ↦ λ x. refl | Some x ↦ λ y. cc ]) h.1.2 in
    let s = same_life-refl from in
    let e : (number.0 == number.0) ≡ true = eq-eqb number.0 number.0 refl in
    let none = unheard_nothing own hs before from number.0 h.0 no in
    let is : heard_head (d ∷ before) from number.0 ≡ Some (head_of tag confirm opt (Eager bytes)) = rw (no, s, e) refl in
    let p : carried_pieces own.limits.first hs (d ∷ before) from number.0 ≡ whole bytes ∷ [] = rw (none, s, e) refl in
    record {
      heard = is;
      head_is = heads_by_heard (d ∷ before) from number.0 (head_of tag confirm opt (Eager bytes)) is;
      bytes_are = heard_bytes own (d ∷ before) from number.0 (head_of tag confirm opt (Eager bytes)) bytes is refl p;
    }
