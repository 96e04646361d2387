-- A new message: what enters by it comes to the matcher as the definitions say.
use Rattle.std.proofs.Common.{◌≡◌, ℕ, ◌+◌, ◌-◌, ◌≤◌, Bool, true, false, cond, ◌&&◌, ◌||◌, List, [], ◌∷◌, map, Option, Some, None, refl, arith, eq-eqb, inl, inr, sym, ◌∙◌, ap, subst}
use Rattle.std.specs.Prelude.{◌==◌, is_some, unwrap_or}
use Rattle.std.proofs.lemmas.Bool.{and_from, cases_eq, ne_eqb}
use Rattle.rdm_lists.specs.Lists.{Member, or_else, below}
use Rattle.rdm_lists.proofs.Below.{member_below}
use Rattle.rdm_lists.proofs.Members.{member-map}
use Rattle.rdm_num.specs.Lives.{same_life}
use Rattle.rdm_num.specs.declared.numbers.Life.{Life}
use Rattle.rdm_num.specs.declared.numbers.MsgNo.{MsgNo}
use Rattle.rdm_num.specs.declared.head.Head.{Head}
use Rattle.rdm_num.proofs.Lives.{same_life-refl}
use Rattle.rdm_hdr.specs.declared.Opt.{Opt}
use Rattle.rdm_pkt.specs.declared.Packet.TheVariants.{Rtm}
use Rattle.rdm_pkt.specs.declared.Form.{Form}
use Rattle.rdm_pkt.specs.Heads.{head_of}
use Rattle.rdm_match.specs.Matcher.{Matching, Arrive, run}
use Rattle.rdm_model.specs.Beginnings.{Own, Heads, no_head}
use Rattle.rdm_model.specs.Deeds.{Deed, Took, Spelled}
use Rattle.rdm_model.specs.Heard.{heard_head, head_by, is_heard, entering}
use Rattle.rdm_model.specs.Local.{heads_by, heard_by}
use Rattle.rdm_model.specs.Matches.{arrival, events_by}
use Rattle.rdm_law.proofs.Matching.Enters.{Reach}
use Rattle.rdm_life.specs.Kept.{Kept, Peer, EarlyMessage, with_peer}
use Rattle.rdm_life.specs.Keeps.{told}
use Rattle.rdm_life.specs.Receiving.{lists_in, with_matching, tag_of, arrival_in, entering_in, enter, hear}
use Rattle.rdm_life.proofs.Made.{lists_before, matched_after}
use Rattle.rdm_life.proofs.MessageStands.{early_some}
use Rattle.rdm_life.proofs.EnteringRow.{reach_grows, entering_row, next_is_reach}
use Rattle.rdm_life.proofs.Entered.{matching_is}
use Rattle.rdm_life.proofs.NewMessage.{Facing, head_by_packet, old_heard, unentered, enters_count}

-- maps by two functions that agree on the elements
map_agrees : {A B : Type 0} (f g : A → B) (xs : List A) → ((x : A) → Member x xs → f x ≡ g x) → map f xs ≡ map g xs
map_agrees f g [] same = refl
map_agrees f g (x ∷ xs) same =
    ap (λ (y : _). y ∷ map f xs) (same x (inl refl)) ∙ ap (λ (ys : List _). g x ∷ ys) (map_agrees f g xs (λ y m. same y (inr m)))

-- a head that was told before is told after
pub head_later : (own : Own) (d : Deed) (before : List Deed) (source : Life) (n : ℕ) → is_heard before source n ≡ true → (told own (d ∷ before)).head source n ≡ (told own before).head source n
unfolding heads_by heard_by heard_head is_heard or_else
head_later own d before source n heard =
    (elim (heard_head before source n) as (λ o. is_some o ≡ true → unwrap_or (or_else o (head_by source n d)) no_head ≡ unwrap_or o no_head) [
      | Some h ↦ λ k. refl
      | None ↦ λ k. cc
    ]) heard

-- the head of the new message is that of its packet
pub head_new : (own : Own) (from : Life) (number : MsgNo) (tag : Option ℕ) (confirm : Bool) (opt : Opt) (form : Form) (before : List Deed) → is_heard before from number.0 ≡ false
    → (told own (Took from (Spelled (Rtm number tag confirm opt form)) ∷ before)).head from number.0 ≡ head_of tag confirm opt form
unfolding heads_by heard_by
head_new own from number tag confirm opt form before unheard = ap (λ (o : Option Head). unwrap_or o no_head) (head_by_packet from number tag confirm opt form before unheard)

-- the tag of a message that enters
tag_is : (own : Own) (before : List Deed) (v : Kept) (from : Life) (number : MsgNo) (tag : Option ℕ) (confirm : Bool) (opt : Opt) (form : Form) (e : EarlyMessage) → Facing own before v from
    → is_heard before from number.0 ≡ false → e.head ≡ head_of tag confirm opt form → (r : Reach own.limits.first before from) (k : ℕ) → r.count ≤ k
    → is_heard (Took from (Spelled (Rtm number tag confirm opt form)) ∷ before) from (own.limits.first + k) ≡ true
    → tag_of ((hear from number.0 e v).early from (own.limits.first + k)) ≡ ((told own (Took from (Spelled (Rtm number tag confirm opt form)) ∷ before)).head from (own.limits.first + k)).tag
unfolding hear tag_of
tag_is own before v from number tag confirm opt form e f unheard head r k past there =
    let d : Deed = Took from (Spelled (Rtm number tag confirm opt form)) in
    let n = own.limits.first + k in
    let self : same_life from from ≡ true = same_life-refl from in
    elim (cases_eq n number.0) [
      | inl same ↦
          let is : (same_life from from && n == number.0) ≡ true = and_from (same_life from from) (n == number.0) self (eq-eqb n number.0 same) in
          ap (λ (b : Bool). tag_of (cond b (Some e) (v.early from n))) is ∙ ap (λ (h : Head). h.tag) head ∙ sym (ap (λ (h : Head). h.tag) (head_new own from number tag confirm opt form before unheard))
          ∙ ap (λ (j : ℕ). ((told own (d ∷ before)).head from j).tag) (sym same)
      | inr other ↦
          let was = old_heard from number tag confirm opt form before n other there in
          let early = early_some own before from n was (unentered own before from r k past) in
          let is : (same_life from from && n == number.0) ≡ false = ap (λ (b : Bool). b && n == number.0) self ∙ ne_eqb n number.0 other in
          ap (λ (b : Bool). tag_of (cond b (Some e) (v.early from n))) is ∙ ap tag_of (f.early n ∙ early.1) ∙ ap (λ (h : Head). h.tag) (early.2 ∙ sym (head_later own d before from n was))
    ]

-- the next number stays as a message is heard of
pub next_here : (from : Life) (number : MsgNo) (e : EarlyMessage) (v : Kept) → ((hear from number.0 e v).peers from).next ≡ (v.peers from).next
unfolding hear
next_here from number e v =
    ap (λ (b : Bool). (cond b (record (v.peers from) { heard = λ n. (v.peers from).heard n || n == number.0 }) (v.peers from)).next) (same_life-refl from)

-- and so do the matcher's lists
lists_here : (from : Life) (number : MsgNo) (e : EarlyMessage) (v : Kept) → lists_in (hear from number.0 e v) ≡ lists_in v
unfolding hear
lists_here from number e v = refl

-- a new message: those that enter come to the matcher, and the pairs that are made meet
pub rtm_entered : (own : Own) (before : List Deed) (v : Kept) (from : Life) (number : MsgNo) (tag : Option ℕ) (confirm : Bool) (opt : Opt) (form : Form) (e : EarlyMessage) → Facing own before v from
    → is_heard before from number.0 ≡ false → e.head ≡ head_of tag confirm opt form
    → (r : Reach own.limits.first before from) (s : Reach own.limits.first (Took from (Spelled (Rtm number tag confirm opt form)) ∷ before) from)
    → enter from (hear from number.0 e v)
    ≡ matched_after own (Took from (Spelled (Rtm number tag confirm opt form))) before (with_peer from (λ (p : Peer). record p { next = p.next + (s.count - r.count) }) (hear from number.0 e v))
unfolding enter events_by
rtm_entered own before v from number tag confirm opt form e f unheard head r s =
    let d : Deed = Took from (Spelled (Rtm number tag confirm opt form)) in
    let first = own.limits.first in
    let w = hear from number.0 e v in
    let hs : Heads = (told own (d ∷ before)).head in
    let c = s.count - r.count in
    let count = enters_count own before v from number tag confirm opt form e f r s in
    let grows = reach_grows first d before from r s in
    let next : (w.peers from).next ≡ first + r.count = next_here from number e v ∙ next_is_reach first before from r (v.peers from).next f.next in
    let row = entering_row first d before from r s in
    let same_events : map (arrival_in w from) (map (λ k. (w.peers from).next + k) (below (entering_in w from))) ≡ map (arrival hs from) (entering first d before from) =
    ap (λ (n : ℕ). map (arrival_in w from) (map (λ k. (w.peers from).next + k) (below n))) count
    ∙ ap (λ (n : ℕ). map (arrival_in w from) (map (λ k. n + k) (below c))) next
    ∙ map_agrees (arrival_in w from) (arrival hs from) (map (λ k. first + r.count + k) (below c))
    (λ n m.
    let k = member-map (λ k. first + r.count + k) n (below c) m in
    let less = member_below c k.0 k.1 in
    let at : first + (r.count + k.0) ≡ n = (let e = k.2 in omega arith) in
    let tag' = tag_is own before v from number tag confirm opt form e f unheard head r (r.count + k.0) (omega arith) (s.heard (r.count + k.0) (omega arith)) in
    subst (λ (j : ℕ). arrival_in w from j ≡ arrival hs from j) at
    (ap (λ (t : Option ℕ). Arrive (record { life = from; no = record { 0 = first + (r.count + k.0) }; tag = t })) tag'))
    ∙ ap (map (arrival hs from)) (sym row) in
    ap (λ (n : ℕ). with_matching (run (lists_in w) (map (arrival_in w from) (map (λ k. (w.peers from).next + k) (below (entering_in w from))))) (with_peer from (λ (p : Peer). record p { next = p.next + n }) w)) count
    ∙ matching_is own d before (with_peer from (λ (p : Peer). record p { next = p.next + c }) w) (run (lists_in w) (map (arrival_in w from) (map (λ k. (w.peers from).next + k) (below (entering_in w from)))))
    (ap (λ (m : Matching). run m (map (arrival_in w from) (map (λ k. (w.peers from).next + k) (below (entering_in w from))))) (lists_here from number e v ∙ f.lists) ∙ ap (run (lists_before own before)) same_events)
