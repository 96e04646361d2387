-- Whether a send may be asked for some bytes, as it is kept.
use Rattle.std.proofs.Common.{◌≡◌, ℕ, ◌+◌, ◌-◌, ◌<◌, ◌≤◌, Bool, true, false, not, ◌&&◌, nat_lt, lt-ltb, ltb-true, le-leb, leb-true, List, Option, Some, None, refl, arith, inl, inr, ◌∙◌, ap}
use Rattle.std.specs.Prelude.{◌==◌, option_map}
use Rattle.std.specs.List.{list_any}
use Rattle.std.proofs.lemmas.Bool.{and_parts, and_from, cases_lt, eqb-true}
use Rattle.rdm_lists.specs.Lists.{each_below}
use Rattle.rdm_lists.proofs.Below.{each_below_at, each_below_from}
use Rattle.rdm_lists.proofs.Members.{list_any_member, member_list_any, find_member}
use Rattle.rdm_num.specs.Lives.{same_life}
use Rattle.rdm_num.specs.Pieces.{overlaps}
use Rattle.rdm_num.specs.declared.numbers.Life.{Life}
use Rattle.rdm_num.proofs.Lives.{same_life-true}
use Rattle.rdm_wire.specs.declared.ReadAsk.{ReadAsk}
use Rattle.rdm_model.specs.Beginnings.{Own}
use Rattle.rdm_model.specs.Deeds.{Deed}
use Rattle.rdm_model.specs.Dues.{live_sends}
use Rattle.rdm_model.specs.Reads.{asks_of}
use Rattle.rdm_model.specs.Scenes.{Scene}
use Rattle.rdm_model.specs.Sends.{Sent}
use Rattle.rdm_model.specs.Targets.{live_send, is_good_ask}
use Rattle.rdm_law.proofs.Lives.Lives.{life_scene}
use Rattle.rdm_life.specs.Kept.{Kept}
use Rattle.rdm_life.specs.Keeps.{kept_send, KeepsSends}
use Rattle.rdm_life.specs.Sending.{is_asked}
use Rattle.rdm_life.specs.Facts.{send_to_life, send_passes, may_be_asked_by}
use Rattle.rdm_life.proofs.SendFacts.{send_to_life_is}
use Rattle.rdm_life.proofs.Tests.{same_test}

-- what is denied is not so
denied : (x : Bool) → (x ≡ true → ⊥) → not x ≡ true
denied true wrong = absurd (wrong refl)
denied false wrong = refl

-- and what is not so was denied
not_so : (x : Bool) → not x ≡ true → x ≡ true → ⊥
not_so true h k = cc
not_so false h k = cc

-- a place that two ranges share
record Shared (at len at' len' : ℕ) : Type 0 where
  place : ℕ
  within : place < len
  low : at' ≤ at + place
  high : at + place < at' + len'

-- ranges that overlap share a place
shared : (at len at' len' : ℕ) → overlaps at len at' len' ≡ true → Shared at len at' len'
unfolding overlaps
shared at len at' len' h =
    let c = and_parts (nat_lt 0 len && nat_lt 0 len' && nat_lt at (at' + len')) (nat_lt at' (at + len)) h in
    let b = and_parts (nat_lt 0 len && nat_lt 0 len') (nat_lt at (at' + len')) c.0 in
    let a = and_parts (nat_lt 0 len) (nat_lt 0 len') b.0 in
    let some : 0 < len = ltb-true 0 len a.0 in
    let some' : 0 < len' = ltb-true 0 len' a.1 in
    let low : at < at' + len' = ltb-true at (at' + len') b.1 in
    let high : at' < at + len = ltb-true at' (at + len) c.1 in
    elim (cases_lt at at') [
      | inl less ↦ record { place = at' - at; within = omega arith; low = omega arith; high = omega arith }
      | inr more ↦ record { place = 0; within = omega arith; low = omega arith; high = omega arith }
    ]

-- and ranges that share a place overlap
overlap : (at len at' len' k : ℕ) → k < len → at' ≤ at + k → at + k < at' + len' → overlaps at len at' len' ≡ true
unfolding overlaps
overlap at len at' len' k within low high =
    and_from (nat_lt 0 len && nat_lt 0 len' && nat_lt at (at' + len')) (nat_lt at' (at + len))
    (and_from (nat_lt 0 len && nat_lt 0 len') (nat_lt at (at' + len')) (and_from (nat_lt 0 len) (nat_lt 0 len') (lt-ltb 0 len (omega arith)) (lt-ltb 0 len' (omega arith))) (lt-ltb at (at' + len') (omega arith)))
    (lt-ltb at' (at + len) (omega arith))

-- no place of a range was asked for where it overlaps no ask
pub unasked_is : (at len : ℕ) (asks : List ReadAsk)
    → each_below (λ k. not (list_any (λ (b : ReadAsk). is_asked b (at + k)) asks)) len ≡ not (list_any (λ (b : ReadAsk). overlaps at len b.at b.length) asks)
unfolding is_asked
unasked_is at len asks =
    let asked : ℕ → Bool = λ k. list_any (λ (b : ReadAsk). is_asked b (at + k)) asks in
    let meets : Bool = list_any (λ (b : ReadAsk). overlaps at len b.at b.length) asks in
    same_test _ (not meets)
    (λ none. denied meets (λ is.
    let m = list_any_member (λ (b : ReadAsk). overlaps at len b.at b.length) asks is in
    let s = shared at len m.0.at m.0.length m.2 in
    let free = each_below_at (λ k. not (asked k)) len s.place none s.within in
    not_so (asked s.place) free
    (member_list_any (λ (b : ReadAsk). is_asked b (at + s.place)) m.0 asks m.1 (and_from _ _ (le-leb m.0.at (at + s.place) s.low) (lt-ltb (at + s.place) (m.0.at + m.0.length) s.high)))))
    (λ none. each_below_from (λ k. not (asked k)) len (λ k less. denied (asked k) (λ is.
    let m = list_any_member (λ (b : ReadAsk). is_asked b (at + k)) asks is in
    let p = and_parts _ _ m.2 in
    not_so meets none
    (member_list_any (λ (b : ReadAsk). overlaps at len b.at b.length) m.0 asks m.1 (overlap at len m.0.at m.0.length k less (leb-true m.0.at (at + k) p.0) (ltb-true (at + k) (m.0.at + m.0.length) p.1))))))

-- of a send that is there
asked_of : (own : Own) (ports : ℕ) (port_log log : List Deed) (to : Life) (a : ReadAsk) (o : Option Sent)
    → ((t : Sent) → o ≡ Some t → asks_of log t.to t.number ≡ asks_of log to a.send_id.0)
    → send_passes (may_be_asked_by a) (option_map (kept_send own log) o) ≡ is_good_ask (life_scene ports own port_log log) to a o
unfolding send_passes may_be_asked_by is_good_ask kept_send
asked_of own ports port_log log to a None same = refl
asked_of own ports port_log log to a (Some t) same =
    let asks = same t refl in
    let free = unasked_is a.at a.length (asks_of log to a.send_id.0) in
    rw (asks, free)

-- the send that is found is the one that the ask names
pub named : (s : Scene) (to : Life) (n : ℕ) (t : Sent) → live_send s to n ≡ Some t → (t.to ≡ to) × (t.number ≡ n)
unfolding live_send
named s to n t is =
    let f = find_member (λ (x : Sent). same_life x.to to && x.number == n) t (live_sends s.own s.ms s.log) is in
    let p = and_parts (same_life t.to to) (t.number == n) f.1 in
    (same_life-true t.to to p.0, eqb-true t.number n p.1)

-- whether a live send may be asked
pub may_be_asked_is : (own : Own) (ports : ℕ) (port_log log : List Deed) (v : Kept) (to : Life) (a : ReadAsk) → KeepsSends own log v
    → send_passes (may_be_asked_by a) (send_to_life v to a.send_id.0)
    ≡ is_good_ask (life_scene ports own port_log log) to a (live_send (life_scene ports own port_log log) to a.send_id.0)
may_be_asked_is own ports port_log log v to a k =
    let s = life_scene ports own port_log log in
    ap (send_passes (may_be_asked_by a)) (send_to_life_is own ports port_log log v to a.send_id.0 k)
    ∙ asked_of own ports port_log log to a (live_send s to a.send_id.0)
    (λ t is. (let n = named s to a.send_id.0 t is in ap (λ (l : Life). asks_of log l t.number) n.0 ∙ ap (λ (x : ℕ). asks_of log to x) n.1))
