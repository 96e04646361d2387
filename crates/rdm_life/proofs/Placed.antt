-- Whether a datagram has to wait for an early place, as it follows from what is kept.
use Rattle.std.proofs.Common.{◌≡◌, ℕ, ◌+◌, ◌-◌, ◌<◌, ◌≤◌, Bool, true, false, not, ◌&&◌, nat_le, leb-true, List, Option, refl, arith, inl, inr, eq-eqb, sym, ◌∙◌, ap, subst}
use Rattle.std.specs.Prelude.{◌==◌}
use Rattle.std.specs.List.{list_any}
use Rattle.std.proofs.lemmas.Bool.{and_parts, cases_lt, eqb-true, not-true}
use Rattle.rdm_lists.specs.Lists.{each_below}
use Rattle.rdm_lists.proofs.Below.{each_below_at}
use Rattle.rdm_num.specs.declared.numbers.Life.{Life}
use Rattle.rdm_match.specs.declared.PostedRecv.{PostedRecv}
use Rattle.rdm_match.specs.Matcher.{accepts}
use Rattle.rdm_pkt.specs.declared.Packet.TheVariants.{Rtm, Cts, CtsData, Eor, Handshake, Receipt}
use Rattle.rdm_model.specs.Beginnings.{Own}
use Rattle.rdm_model.specs.Currents.{is_forgotten}
use Rattle.rdm_model.specs.Deeds.{Deed, Item, Spelled, Asks, Gives, Garbled}
use Rattle.rdm_model.specs.Heard.{is_heard, heard_below, is_next_message}
use Rattle.rdm_model.specs.Takes.{is_met, needs_place_by, place_facts}
use Rattle.rdm_law.proofs.Lives.Lives.{life_scene}
use Rattle.rdm_life.specs.Kept.{Kept}
use Rattle.rdm_life.specs.Keeps.{Keeps}
use Rattle.rdm_life.specs.Facts.{is_met_in, place_facts_in}
use Rattle.rdm_life.proofs.Tests.{same_test}

-- a number below the next one was heard of
below_next : (first : ℕ) (log : List Deed) (source : Life) (m n : ℕ) → is_next_message first log source n ≡ true → first ≤ m → m < n → is_heard log source m ≡ true
unfolding is_next_message heard_below
below_next first log source m n next low less =
    let p = and_parts (nat_le first n && each_below (λ k. is_heard log source (first + k)) (n - first)) (not (is_heard log source n)) next in
    let q = and_parts (nat_le first n) (each_below (λ k. is_heard log source (first + k)) (n - first)) p.0 in
    let there = each_below_at (λ k. is_heard log source (first + k)) (n - first) (m - first) q.1 (omega arith) in
    let same : first + (m - first) ≡ m = omega arith in
    subst (λ (j : ℕ). is_heard log source j ≡ true) same there

-- the next one is none below the first, and was not heard of
next_parts : (first : ℕ) (log : List Deed) (source : Life) (n : ℕ) → is_next_message first log source n ≡ true → (first ≤ n) × (is_heard log source n ≡ false)
unfolding is_next_message heard_below
next_parts first log source n next =
    let p = and_parts (nat_le first n && each_below (λ k. is_heard log source (first + k)) (n - first)) (not (is_heard log source n)) next in
    let q = and_parts (nat_le first n) (each_below (λ k. is_heard log source (first + k)) (n - first)) p.0 in
    (leb-true first n q.0, not-true (is_heard log source n) p.1)

-- a life has one next number
next_one : (first : ℕ) (log : List Deed) (source : Life) (m n : ℕ) → is_next_message first log source m ≡ true → is_next_message first log source n ≡ true → m ≡ n
next_one first log source m n a b =
    let p = next_parts first log source m a in
    let q = next_parts first log source n b in
    elim (cases_lt m n) [
      | inl less ↦ (let heard = below_next first log source m n b p.0 less in let wrong : true ≡ false = sym heard ∙ p.1 in cc)
      | inr more ↦ elim (cases_lt n m) [
        | inl less ↦ (let heard = below_next first log source n m a q.0 less in let wrong : true ≡ false = sym heard ∙ q.1 in cc)
        | inr same ↦ omega arith
      ]
    ]

-- whether a number is the next one
pub next_number_is : (first : ℕ) (log : List Deed) (source : Life) (next n : ℕ) → is_next_message first log source next ≡ true → (next == n) ≡ is_next_message first log source n
next_number_is first log source next n is =
    same_test (next == n) (is_next_message first log source n)
    (λ e. subst (λ (k : ℕ). is_next_message first log source k ≡ true) (eqb-true next n e) is)
    (λ b. eq-eqb next n (next_one first log source next n is b))

-- whether a message is next and a posted receive accepts it
is_met_is : (own : Own) (ports : ℕ) (port_log log : List Deed) (v : Kept) (from : Life) (n : ℕ) (tag : Option ℕ) → is_forgotten log from ≡ false → Keeps own log v
    → is_met_in v from n tag ≡ is_met (life_scene ports own port_log log) from n tag
unfolding is_met_in is_met
is_met_is own ports port_log log v from n tag kept keeps =
    let next = next_number_is own.limits.first log from (v.peers from).next n (keeps.matching.next_is from kept) in
    let test : PostedRecv → Bool = λ (r : PostedRecv). accepts r (record { life = from; no = record { 0 = n }; tag = tag }) in
    ap (λ (b : Bool). b && list_any test v.posted) next
    ∙ ap (λ (rs : List PostedRecv). is_next_message own.limits.first log from n && list_any test rs) keeps.matching.posted_is

-- whether a datagram would have to wait for its receive
pub needs_place_is : (own : Own) (ports : ℕ) (port_log log : List Deed) (v : Kept) (from : Life) (item : Item) → is_forgotten log from ≡ false → Keeps own log v
    → needs_place_by (place_facts_in v) from item ≡ needs_place_by (place_facts (life_scene ports own port_log log)) from item
unfolding needs_place_by
needs_place_is own ports port_log log v from (Spelled (Rtm number tag confirm opt form)) kept keeps =
    ap (λ (b : Bool). not b && not (is_met_in v from number.0 tag)) (keeps.matching.heard_is from kept number.0)
    ∙ ap (λ (b : Bool). not (is_heard log from number.0) && not b) (is_met_is own ports port_log log v from number.0 tag kept keeps)
needs_place_is own ports port_log log v from (Spelled (Cts send recv size connid)) kept keeps = refl
needs_place_is own ports port_log log v from (Spelled (CtsData recv offset connid bytes)) kept keeps = refl
needs_place_is own ports port_log log v from (Spelled (Eor send recv connid)) kept keeps = refl
needs_place_is own ports port_log log v from (Spelled (Handshake words connid raw)) kept keeps = refl
needs_place_is own ports port_log log v from (Spelled (Receipt number connid)) kept keeps = refl
needs_place_is own ports port_log log v from (Asks a) kept keeps = refl
needs_place_is own ports port_log log v from (Gives g) kept keeps = refl
needs_place_is own ports port_log log v from Garbled kept keeps = refl

-- whether as many messages are early as may be
pub is_full_is : (own : Own) (ports : ℕ) (port_log log : List Deed) (v : Kept) → Keeps own log v → (place_facts_in v).is_full ≡ (place_facts (life_scene ports own port_log log)).is_full
is_full_is own ports port_log log v keeps =
    ap (λ (o : Own). nat_le o.limits.early v.early_count) keeps.lives.own_is
    ∙ ap (λ (n : ℕ). nat_le own.limits.early n) keeps.matching.early_count_is
