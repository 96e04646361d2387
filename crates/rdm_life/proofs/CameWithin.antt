-- Each byte that came of a message to be granted lies in what was granted before the deed that brought it.
use Rattle.std.proofs.Common.{◌≡◌, ℕ, ◌+◌, ◌-◌, ◌<◌, ◌≤◌, Bool, true, false, cond, not, ◌&&◌, List, [], ◌∷◌, ◌++◌, length, Option, Some, None, refl, arith, inl, inr, sym, ◌∙◌, ap, subst}
use Rattle.std.specs.Prelude.{◌==◌, nat_le, is_some, unwrap_or}
use Rattle.std.specs.Bool.{then_some}
use Rattle.std.proofs.lemmas.Bool.{and_parts, eqb-true, not-false, ltb-false, leb-true, cases_lt}
use Rattle.rdm_lists.specs.Lists.{Member, or_else, each_below}
use Rattle.rdm_lists.proofs.Below.{each_below_at}
use Rattle.rdm_lists.proofs.Members.{member-append_cases, member-map, find_member, list_any_member}
use Rattle.rdm_num.specs.Lives.{same_life}
use Rattle.rdm_num.specs.Pieces.{Piece, byte_in, byte_at, covers, is_missing}
use Rattle.rdm_num.specs.declared.numbers.Life.{Life}
use Rattle.rdm_num.specs.declared.head.Head.{Head}
use Rattle.rdm_num.specs.declared.head.Shape.{Shape}
use Rattle.rdm_num.specs.declared.head.Shape.TheVariants as S
use Rattle.rdm_num.proofs.Lives.{same_life-true}
use Rattle.rdm_pkt.specs.declared.Form.{Form}
use Rattle.rdm_pkt.specs.declared.Form.TheVariants.{Eager, Medium, LongCts, LongRead, Runt}
use Rattle.rdm_pkt.specs.declared.Packet.TheVariants.{Rtm}
use Rattle.rdm_pkt.specs.Heads.{shape_of, head_of, piece_of}
use Rattle.rdm_match.specs.Matcher.{Pair, is_pair, is_recv}
use Rattle.rdm_model.specs.Beginnings.{Own, Heads}
use Rattle.rdm_model.specs.Classes.{is_other_head, repeats}
use Rattle.rdm_model.specs.ClassFacts.{is_received, is_filled_end, passes_grants, came_in_part, class_facts}
use Rattle.rdm_hdr.specs.declared.Opt.{Opt}
use Rattle.rdm_model.specs.Deeds.{Deed, Took, Spelled}
use Rattle.rdm_model.specs.Grants.{first_part_in, first_part_by, first_part_taken, first_part, granted_bytes}
use Rattle.rdm_model.specs.Heads.{same_head, same_shape, same_option, same_truth}
use Rattle.rdm_model.specs.Heard.{head_by, heard_head}
use Rattle.rdm_model.specs.Matches.{pairs}
use Rattle.rdm_model.specs.Parts.{carried_pieces, has_landed}
use Rattle.rdm_model.specs.Receives.{RecvEnd, Filled, Withdrawn, Gone, filled_by, is_filled, recv_ends, with_recv_ends, recv_ends_by, has_ended}
use Rattle.rdm_model.specs.Scenes.{Scene}
use Rattle.rdm_model.specs.Targets.{live_pair, has_shape, is_long_shape, is_read_shape}
use Rattle.rdm_model.proofs.Matches.{is_pair_member}
use Rattle.rdm_model.proofs.SameReceives.{filled_still}
use Rattle.rdm_model.proofs.Rows.{byte_in_before}
use Rattle.rdm_law.proofs.Ends.Ends.{withdrawn_from, filled_from, gone_from}
use Rattle.rdm_law.proofs.Matching.Numbered.{matching_numbered}
use Rattle.rdm_law.proofs.Windows.Granted.{byte_ends}
use Rattle.rdm_life.specs.Keeps.{told}
use Rattle.rdm_lists.proofs.Members.{member-flat_map}
use Rattle.std.specs.Prelude.{map, flat_map}
use Rattle.rdm_model.specs.Receives.{withdrawn_by, gone_with}
use Rattle.rdm_model.specs.Currents.{forgotten_by}
use Rattle.rdm_model.specs.Local.{heads_by}

-- ---- a receive that ended with its message has all of it

-- what ends filled by a deed is filled
filled_new : (first : ℕ) (heads : Heads) (d : Deed) (before : List Deed) (ends : List RecvEnd) (p : Pair) → Member (Filled p) (recv_ends_by first heads d before ends)
    → is_filled first heads (d ∷ before) p ≡ true
unfolding recv_ends_by
filled_new first heads d before ends p h =
    elim (member-append_cases (Filled p) (map Filled (filled_by first heads d before) ++ withdrawn_by d) (flat_map (gone_with first heads before ends) (forgotten_by before d)) h) [
      | inl a ↦ elim (member-append_cases (Filled p) (map Filled (filled_by first heads d before)) (withdrawn_by d) a) [
        | inl b ↦
            let m = member-map Filled (Filled p) (filled_by first heads d before) b in
            let e : m.0 ≡ p = (let is = m.2 in cc) in
            subst (λ (q : Pair). is_filled first heads (d ∷ before) q ≡ true) e (filled_from first heads d before m.0 m.1).1
        | inr b ↦ let w = (withdrawn_from d (Filled p) b).2 in cc
      ]
      | inr a ↦
          let m = member-flat_map (gone_with first heads before ends) (Filled p) (forgotten_by before d) a in
          let g = (gone_from first heads before ends m.0 (Filled p) m.2).3 in
          cc
    ]

-- so is what ended filled
pub filled_end : (first : ℕ) (heads : Heads) (log : List Deed) (p : Pair) → Member (Filled p) (recv_ends first heads log) → is_filled first heads log p ≡ true
unfolding recv_ends with_recv_ends
filled_end first heads [] p h = elim h [ ]
filled_end first heads (d ∷ before) p h =
    elim (member-append_cases (Filled p) (recv_ends first heads before) (recv_ends_by first heads d before (recv_ends first heads before)) h) [
      | inl a ↦ filled_still first heads d before p (filled_end first heads before p a)
      | inr a ↦ filled_new first heads d before (recv_ends first heads before) p a
    ]

-- an end that took a message has it whole
end_landed : (first : ℕ) (heads : Heads) (log : List Deed) (source : Life) (n : ℕ) (e : RecvEnd) → Member e (recv_ends first heads log) → is_filled_end source n e ≡ true
    → has_landed first heads log source n ≡ true
unfolding is_filled_end is_filled
end_landed first heads log source n (Filled p) m h =
    let a = and_parts (same_life p.message.life source) (p.message.no.0 == n) h in
    let f = filled_end first heads log p m in
    let l = (and_parts (is_pair (pairs first heads log) p.recv.id.0 p.message.life p.message.no.0) (has_landed first heads log p.message.life p.message.no.0) f).1 in
    subst (λ (k : ℕ). has_landed first heads log source k ≡ true) (eqb-true p.message.no.0 n a.1)
    (subst (λ (x : Life). has_landed first heads log x p.message.no.0 ≡ true) (same_life-true p.message.life source a.0) l)
end_landed first heads log source n (Withdrawn k) m h = cc
end_landed first heads log source n (Gone k) m h = cc

-- a message that a receive took has come whole
received_landed : (s : Scene) (source : Life) (n : ℕ) → is_received s source n ≡ true → has_landed s.own.limits.first s.ms.head s.log source n ≡ true
unfolding is_received
received_landed s source n h =
    let m = list_any_member (is_filled_end source n) (recv_ends s.own.limits.first s.ms.head s.log) h in
    end_landed s.own.limits.first s.ms.head s.log source n m.0 m.1 m.2

-- ---- first parts

-- no head, no first part
first_none : (source : Life) (n : ℕ) (d : Deed) → head_by source n d ≡ None → first_part_by source n d ≡ None
unfolding head_by first_part_by
first_none source n (Took from (Spelled (Rtm number tag confirm opt form))) h =
    (elim (same_life from source && number.0 == n) as (λ b. then_some b (head_of tag confirm opt form) ≡ None → cond b (first_part_in form) None ≡ None) [
      | true ↦ λ k. cc
      | false ↦ λ k. refl
    ]) h
first_none source n _ h = refl

-- neither of two values is there
or_else_none : {A : Type 0} (x y : Option A) → or_else x y ≡ None → (x ≡ None) × (y ≡ None)
unfolding or_else
or_else_none None y h = (refl, h)
or_else_none (Some x) y h = cc

-- of a message that was not heard of there is no first part
pub unheard_first : (log : List Deed) (source : Life) (n : ℕ) → heard_head log source n ≡ None → first_part_taken log source n ≡ None
unfolding heard_head first_part_taken or_else
unheard_first [] source n h = refl
unheard_first (d ∷ before) source n h =
    let a = or_else_none (heard_head before source n) (head_by source n d) h in
    let x = unheard_first before source n a.0 in
    let y = first_none source n d a.1 in
    rw (x, y) refl

-- a first part is only more later
pub first_more : (d : Deed) (before : List Deed) (source : Life) (n : ℕ) → first_part before source n ≤ first_part (d ∷ before) source n
unfolding first_part first_part_taken or_else
first_more d before source n =
    elim (first_part_taken before source n) as (λ o. unwrap_or o 0 ≤ unwrap_or (or_else o (first_part_by source n d)) 0) [ None ↦ omega arith | Some k ↦ omega arith ]

-- ---- what a deed brings

-- the message is to be granted, where it was heard of
abbrev pub IsGranted : List Deed → Life → ℕ → Type 0
IsGranted log source n = (h : Head) → heard_head log source n ≡ Some h → is_long_shape h.shape ≡ true

-- the pair is the only one of its message
abbrev pub IsOnly : List Pair → Pair → Type 0
IsOnly ps p = (q : Pair) → Member q ps → q.message.life ≡ p.message.life → q.message.no.0 ≡ p.message.no.0 → q ≡ p

-- the place is one that was granted before a deed
abbrev pub WasGranted : Own → Deed → List Deed → Pair → ℕ → Type 0
WasGranted own d before p place =
    place < first_part (d ∷ before) p.message.life p.message.no.0 + granted_bytes own.limits (told own before).head before p

-- a value that a test lets through
pub some_cond : {A : Type 0} (b : Bool) (o : Option A) (x : A) → cond b o None ≡ Some x → (b ≡ true) × (o ≡ Some x)
some_cond true o x h = (refl, h)
some_cond false o x h = cc

-- a byte of a piece stands at its offset or after it
pub byte_starts : (q : Piece) (place b : ℕ) → byte_in q place ≡ Some b → q.offset ≤ place
byte_starts q place b h =
    elim (cases_lt place q.offset) [ inl a ↦ absurd (let n = byte_in_before q place a in cc) | inr a ↦ a ]

-- a byte that is missing did not come
missing_not : (ps : List Piece) (size offset : ℕ) (bytes : List ℕ) (place b : ℕ) → covers ps size ≡ true → not (is_missing ps size offset (length bytes)) ≡ false
    → byte_in (record { offset = offset; bytes = bytes }) place ≡ Some b → ⊥
unfolding covers is_missing
missing_not ps size offset bytes place b all h is =
    let m = not-false (nat_le (offset + length bytes) size && each_below (λ k. not (is_some (byte_at ps (offset + k)))) (length bytes)) h in
    let parts = and_parts (nat_le (offset + length bytes) size) (each_below (λ k. not (is_some (byte_at ps (offset + k)))) (length bytes)) m in
    let within = leb-true (offset + length bytes) size parts.0 in
    let low = byte_starts (record { offset = offset; bytes = bytes }) place b is in
    let high = byte_ends (record { offset = offset; bytes = bytes }) place b is in
    let k : ℕ = place - offset in
    let there = each_below_at (λ x. is_some (byte_at ps x)) size place all (omega arith) in
    let gone = each_below_at (λ k. not (is_some (byte_at ps (offset + k)))) (length bytes) k parts.1 (omega arith) in
    let e : offset + k ≡ place = omega arith in
    let no : not (is_some (byte_at ps place)) ≡ true = subst (λ (x : ℕ). not (is_some (byte_at ps x)) ≡ true) e gone in
    let wrong : not true ≡ true = ap not (sym there) ∙ no in
    cc

-- a shape to be granted is no other
long_other : (a b : Shape) → is_long_shape a ≡ true → is_long_shape b ≡ false → same_shape a b ≡ false
unfolding is_long_shape same_shape
long_other (S.LongCts i k) (S.LongCts j l) long short = cc
long_other (S.LongCts i k) S.Eager long short = refl
long_other (S.LongCts i k) S.Medium long short = refl
long_other (S.LongCts i k) (S.LongRead j iov) long short = refl
long_other (S.LongCts i k) (S.Runt j iov runt) long short = refl
long_other S.Eager b long short = cc
long_other S.Medium b long short = cc
long_other (S.LongRead j iov) b long short = cc
long_other (S.Runt j iov runt) b long short = cc

-- a message to be granted has no head of segments
long_not_medium : (a b : Head) → is_long_shape a.shape ≡ true → is_long_shape b.shape ≡ false → same_head a b ≡ false
unfolding same_head
long_not_medium a b long short =
    let s = long_other a.shape b.shape long short in
    elim (same_option a.tag b.tag && same_truth a.confirm b.confirm && same_option a.cq_data b.cq_data && (a.length == b.length)) as (λ x. (x && same_shape a.shape b.shape) ≡ false) [
      | true ↦ s
      | false ↦ refl
    ]

-- so no byte of segments comes of a message to be granted that was heard of
no_segment : (s : Scene) (source : Life) (n : ℕ) (was head : Head) (offset : ℕ) (bytes : List ℕ) (place b : ℕ) → heard_head s.log source n ≡ Some was → is_long_shape was.shape ≡ true
    → is_long_shape head.shape ≡ false → s.ms.head ≡ heads_by s.log → is_other_head (cond (is_received s source n) None (heard_head s.log source n)) head ≡ false
    → came_in_part s source n offset (length bytes) ≡ false → byte_in (record { offset = offset; bytes = bytes }) place ≡ Some b → ⊥
unfolding is_other_head came_in_part has_landed
no_segment s source n was head offset bytes place b heard long short heads same new is =
    (elim (is_received s source n) as (λ x. is_received s source n ≡ x → is_other_head (cond x None (heard_head s.log source n)) head ≡ false → ⊥) [
      | true ↦ λ e k.
          missing_not (carried_pieces s.own.limits.first s.ms.head s.log source n) (s.ms.head source n).length offset bytes place b (received_landed s source n e) new is
      | false ↦ λ e k.
          let other = long_not_medium was head long short in
          let now : is_other_head (Some was) head ≡ false = subst (λ (o : Option Head). is_other_head o head ≡ false) heard k in
          let wrong : not false ≡ false = ap not (sym other) ∙ now in
          cc
    ]) refl same

-- a packet that opens a message that was heard of brings none
pub heard_brings : (s : Scene) (source : Life) (n : ℕ) (tag : Option ℕ) (confirm : Bool) (opt : Opt) (form : Form) (was : Head) (x : Piece) (place b : ℕ)
    → heard_head s.log source n ≡ Some was → is_long_shape was.shape ≡ true → s.ms.head ≡ heads_by s.log
    → is_other_head (cond (is_received s source n) None (heard_head s.log source n)) (head_of tag confirm opt form) ≡ false
    → repeats (class_facts s) source n form ≡ false → piece_of form ≡ Some x → byte_in x place ≡ Some b → ⊥
unfolding repeats head_of shape_of is_long_shape piece_of
heard_brings s source n tag confirm opt (Eager bytes) was x place b heard long heads same new piece is = cc
heard_brings s source n tag confirm opt (LongCts size send credits bytes) was x place b heard long heads same new piece is = cc
heard_brings s source n tag confirm opt (LongRead size send iov) was x place b heard long heads same new piece is = cc
heard_brings s source n tag confirm opt (Medium size offset bytes) was x place b heard long heads same new piece is =
    no_segment s source n was (head_of tag confirm opt (Medium size offset bytes)) offset bytes place b heard long refl heads same new
    (let e : x ≡ record { offset = offset; bytes = bytes } = cc in subst (λ (q : Piece). byte_in q place ≡ Some b) e is)
heard_brings s source n tag confirm opt (Runt size send iov runt offset bytes) was x place b heard long heads same new piece is =
    no_segment s source n was (head_of tag confirm opt (Runt size send iov runt offset bytes)) offset bytes place b heard long refl heads same new
    (let e : x ≡ record { offset = offset; bytes = bytes } = cc in subst (λ (q : Piece). byte_in q place ≡ Some b) e is)

-- the first packet of a message to be granted brings its first part
pub first_brings : (form : Form) (x : Piece) (place b : ℕ) → is_long_shape (shape_of form) ≡ true → piece_of form ≡ Some x → byte_in x place ≡ Some b
    → place < unwrap_or (first_part_in form) 0
unfolding shape_of is_long_shape piece_of first_part_in
first_brings (LongCts size send credits bytes) x place b long piece is =
    let e : x ≡ record { offset = 0; bytes = bytes } = cc in
    let high = byte_ends (record { offset = 0; bytes = bytes }) place b (subst (λ (q : Piece). byte_in q place ≡ Some b) e is) in
    omega arith
first_brings (Eager bytes) x place b long piece is = cc
first_brings (Medium size offset bytes) x place b long piece is = cc
first_brings (LongRead size send iov) x place b long piece is = cc
first_brings (Runt size send iov runt offset bytes) x place b long piece is = cc

-- the pair of a live receive, by the account of the life
pub live_is : (s : Scene) (from : Life) (recv : ℕ) (q : Pair) → live_pair s from recv ≡ Some q → Member q (pairs s.own.limits.first s.ms.head s.log) × (q.recv.id.0 ≡ recv)
unfolding live_pair is_recv
live_is s from recv q h =
    let ended = has_ended (recv_ends s.own.limits.first s.ms.head s.log) recv in
    let f = find_member (λ (p : Pair). is_recv recv p.recv && same_life p.message.life from && not ended) q (pairs s.own.limits.first s.ms.head s.log) h in
    let a = and_parts (is_recv recv q.recv && same_life q.message.life from) (not ended) f.1 in
    (f.0, eqb-true q.recv.id.0 recv (and_parts (is_recv recv q.recv) (same_life q.message.life from) a.0).0)

-- so it is the only pair of the message, where the receive was matched to that
live_only : (s : Scene) (p : Pair) (from : Life) (recv : ℕ) (q : Pair) → IsOnly (pairs s.own.limits.first s.ms.head s.log) p → live_pair s from recv ≡ Some q
    → is_pair (pairs s.own.limits.first s.ms.head s.log) recv p.message.life p.message.no.0 ≡ true → (q ≡ p) × Member p (pairs s.own.limits.first s.ms.head s.log)
live_only s p from recv q only live paired =
    let ps = pairs s.own.limits.first s.ms.head s.log in
    let l = live_is s from recv q live in
    let m = is_pair_member ps recv p.message.life p.message.no.0 paired in
    let same : q ≡ m.0 = (matching_numbered s.own.limits.first s.ms.head s.log).once q m.0 l.0 m.1 (l.1 ∙ sym m.2) in
    let e : m.0 ≡ p = only m.0 m.1 m.3 m.4 in
    (same ∙ e, subst (λ (x : Pair). Member x ps) e m.1)

-- granted bytes that come were granted
pub data_brings : (s : Scene) (p : Pair) (from : Life) (recv offset : ℕ) (bytes : List ℕ) (o : Option Pair) → live_pair s from recv ≡ o → not (has_shape s is_long_shape o) ≡ false
    → passes_grants s (offset + length bytes) o ≡ false → IsOnly (pairs s.own.limits.first s.ms.head s.log) p
    → is_pair (pairs s.own.limits.first s.ms.head s.log) recv p.message.life p.message.no.0 ≡ true
    → offset + length bytes ≤ first_part s.log p.message.life p.message.no.0 + granted_bytes s.own.limits s.ms.head s.log p
unfolding has_shape passes_grants
data_brings s p from recv offset bytes None live op agrees only paired = cc
data_brings s p from recv offset bytes (Some q) live op agrees only paired =
    let e = (live_only s p from recv q only live paired).0 in
    let fit = ltb-false (first_part s.log q.message.life q.message.no.0 + granted_bytes s.own.limits s.ms.head s.log q) (offset + length bytes) agrees in
    subst (λ (x : Pair). offset + length bytes ≤ first_part s.log x.message.life x.message.no.0 + granted_bytes s.own.limits s.ms.head s.log x) e fit

-- a message to be granted is not read
long_not_read : (shape : Shape) → is_long_shape shape ≡ true → not (is_read_shape shape) ≡ false → ⊥
unfolding is_long_shape is_read_shape
long_not_read (S.LongCts send credits) long read = cc
long_not_read S.Eager long read = cc
long_not_read S.Medium long read = cc
long_not_read (S.LongRead send iov) long read = cc
long_not_read (S.Runt send iov runt) long read = cc

-- no bytes of it are read
pub gives_none : (s : Scene) (p : Pair) (from : Life) (recv : ℕ) (o : Option Pair) → live_pair s from recv ≡ o → not (has_shape s is_read_shape o) ≡ false
    → IsOnly (pairs s.own.limits.first s.ms.head s.log) p → is_pair (pairs s.own.limits.first s.ms.head s.log) recv p.message.life p.message.no.0 ≡ true
    → is_long_shape (s.ms.head p.message.life p.message.no.0).shape ≡ true → ⊥
unfolding has_shape
gives_none s p from recv None live op only paired long = cc
gives_none s p from recv (Some q) live op only paired long =
    let e = (live_only s p from recv q only live paired).0 in
    long_not_read (s.ms.head p.message.life p.message.no.0).shape long
    (subst (λ (x : Pair). not (is_read_shape (s.ms.head x.message.life x.message.no.0).shape) ≡ false) e op)
