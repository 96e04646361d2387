-- How many places of a message were asked for.
use Rattle.std.proofs.Common.{◌≡◌, ℕ, zero, suc, ◌+◌, ◌-◌, ◌<◌, ◌≤◌, min, Bool, true, false, ◌&&◌, ◌||◌, nat_lt, nat_le, lt-ltb, ltb-true, le-leb, leb-true, eq-eqb, List, [], ◌∷◌, refl, arith, inl, inr, sym, ◌∙◌, ap}
use Rattle.std.specs.Prelude.{◌==◌}
use Rattle.std.specs.List.{list_any}
use Rattle.std.proofs.lemmas.Bool.{and_parts, and_from, cases_lt, eqb-true}
use Rattle.std.proofs.lemmas.List.Sums.{sum_by-cons}
use Rattle.rdm_lists.specs.Lists.{Member, each_below}
use Rattle.rdm_lists.proofs.Members.{list_any_member}
use Rattle.rdm_wire.specs.declared.ReadAsk.{ReadAsk}
use Rattle.rdm_model.specs.Reads.{asked_bytes}
use Rattle.rdm_law.proofs.Classes.Cover.{AllApart}
use Rattle.rdm_life.specs.Sending.{is_asked}
use Rattle.rdm_life.proofs.TakenBy.{false_unless}
use Rattle.rdm_life.proofs.Tests.{same_test}

-- a test as a number
unfoldable pub bit : Bool → ℕ
bit true = 1
bit false = 0

-- how many numbers below a bound pass
unfoldable pub counted : (ℕ → Bool) → ℕ → ℕ
counted t zero = 0
counted t (suc n) = counted t n + bit (t n)

-- a test counts for one at most
one_at_most : (b : Bool) → bit b ≤ 1
unfolding bit
one_at_most true = omega arith
one_at_most false = omega arith

-- no more than there are
pub counted_le : (t : ℕ → Bool) (n : ℕ) → counted t n ≤ n
unfolding counted bit
counted_le t zero = omega arith
counted_le t (suc n) = let e = counted_le t n in let b = one_at_most (t n) in omega arith

-- where each number passes, all are counted
all_counted : (t : ℕ → Bool) (n : ℕ) → each_below t n ≡ true → counted t n ≡ n
unfolding counted each_below bit
all_counted t zero all = refl
all_counted t (suc n) all =
    let p = and_parts (each_below t n) (t n) all in
    let e = all_counted t n p.0 in
    let one : bit (t n) ≡ bit true = ap bit p.1 in
    omega arith

-- and where all are counted, each passes
counted_all : (t : ℕ → Bool) (n : ℕ) → counted t n ≡ n → each_below t n ≡ true
unfolding counted each_below bit
counted_all t zero is = refl
counted_all t (suc n) is =
    let le = counted_le t n in
    (elim (t n) as (λ b. t n ≡ b → counted t n + bit b ≡ suc n → (each_below t n && b) ≡ true) [
      | true ↦ λ here e. and_from (each_below t n) true (counted_all t n (omega arith)) refl
      | false ↦ λ here e. absurd (omega arith)
    ]) refl is

-- as many are counted as there are exactly where each passes
pub counted_is : (t : ℕ → Bool) (n k : ℕ) → counted t n ≡ k → (k == n) ≡ each_below t n
counted_is t n k is =
    same_test (k == n) (each_below t n) (λ e. counted_all t n (is ∙ eqb-true k n e)) (λ all. eq-eqb k n (sym is ∙ all_counted t n all))

-- tests that agree below the bound count the same
counted_same : (t u : ℕ → Bool) (n : ℕ) → ((k : ℕ) → k < n → t k ≡ u k) → counted t n ≡ counted u n
unfolding counted
counted_same t u zero same = refl
counted_same t u (suc n) same = rw (counted_same t u n (λ k less. same k (omega arith)), same n (omega arith))

-- two tests of which no number passes both
counted_or : (t u : ℕ → Bool) (n : ℕ) → ((k : ℕ) → t k ≡ true → u k ≡ false) → counted (λ k. t k || u k) n ≡ counted t n + counted u n
unfolding counted bit
counted_or t u zero apart = refl
counted_or t u (suc n) apart =
    let e = counted_or t u n apart in
    (elim (t n) as (λ b. t n ≡ b → counted (λ k. t k || u k) n + bit (b || u n) ≡ counted t n + bit b + (counted u n + bit (u n))) [
      | true ↦ λ is. (let none : bit (u n) ≡ bit false = ap bit (apart n is) in omega arith)
      | false ↦ λ is. omega arith
    ]) refl

-- the place lies in a range
abbrev in_range : (at len : ℕ) → ℕ → Bool
in_range at len k = nat_le at k && nat_lt k (at + len)

-- a place before a range
not_le : (at n : ℕ) → n < at → nat_le at n ≡ false
not_le at n less = false_unless (nat_le at n) (λ is. let e = leb-true at n is in omega arith)

-- a place past a range
past_end : (at len n : ℕ) → at + len ≤ n → in_range at len n ≡ false
past_end at len n past =
    false_unless (in_range at len n) (λ is. let p = and_parts (nat_le at n) (nat_lt n (at + len)) is in let e = ltb-true n (at + len) p.1 in omega arith)

-- a range from the start on
from_zero : (len k : ℕ) → in_range 0 len k ≡ nat_lt k len
from_zero len k =
    let low : nat_le 0 k ≡ true = le-leb 0 k (omega arith) in
    let same : 0 + len ≡ len = omega arith in
    rw (low, same)

-- nothing is counted where none passes
none_counted : (n : ℕ) → counted (λ k. false) n ≡ 0
unfolding counted bit
none_counted zero = refl
none_counted (suc n) = let e = none_counted n in omega arith

-- the test of one place of a range
range_step : (at len n : ℕ) → min (at + len) (suc n) - min at (suc n) ≡ min (at + len) n - min at n + bit (in_range at len n)
unfolding bit
range_step at len n =
    elim (cases_lt n at) [
      | inl before ↦ (
          let out : bit (in_range at len n) ≡ bit false = ap (λ (b : Bool). bit (b && nat_lt n (at + len))) (not_le at n before) in
          omega arith)
      | inr from ↦ elim (cases_lt n (at + len)) [
        | inl within ↦ (
            let here : bit (in_range at len n) ≡ bit true = ap bit (and_from (nat_le at n) (nat_lt n (at + len)) (le-leb at n from) (lt-ltb n (at + len) within)) in
            omega arith)
        | inr past ↦ (
            let out : bit (in_range at len n) ≡ bit false = ap bit (past_end at len n past) in
            omega arith)
      ]
    ]

-- a range has as many places as it is long, where it lies below the bound
counted_range : (at len n : ℕ) → counted (in_range at len) n ≡ min (at + len) n - min at n
unfolding counted
counted_range at len zero = omega arith
counted_range at len (suc n) = let e = counted_range at len n in let s = range_step at len n in omega arith

-- the sum of one ask and others
sum_cons : (a : ReadAsk) (asks : List ReadAsk) → asked_bytes (a ∷ asks) ≡ a.length + asked_bytes asks
unfolding asked_bytes
sum_cons a asks = sum_by-cons (λ (x : ReadAsk). x.length) a asks

-- no ask has no byte
none_asked : asked_bytes [] ≡ 0
unfolding asked_bytes
none_asked = refl

-- asks that are apart have as many places as they are long together
pub counted_asks : (asks : List ReadAsk) (n : ℕ) → AllApart asks → ((a : ReadAsk) → Member a asks → a.at + a.length ≤ n)
    → counted (λ k. list_any (λ (a : ReadAsk). is_asked a k) asks) n ≡ asked_bytes asks
unfolding is_asked
counted_asks [] n apart within = none_counted n ∙ sym none_asked
counted_asks (a ∷ asks) n apart within =
    let others : ℕ → Bool = λ k. list_any (λ (b : ReadAsk). in_range b.at b.length k) asks in
    let split = counted_or (in_range a.at a.length) others n (λ k here. false_unless (others k) (λ is.
    let m = list_any_member (λ (b : ReadAsk). in_range b.at b.length k) asks is in
    let p = and_parts (nat_le a.at k) (nat_lt k (a.at + a.length)) here in
    let q = and_parts (nat_le m.0.at k) (nat_lt k (m.0.at + m.0.length)) m.2 in
    apart.1 m.0 m.1 (k, leb-true a.at k p.0, ltb-true k (a.at + a.length) p.1, leb-true m.0.at k q.0, ltb-true k (m.0.at + m.0.length) q.1))) in
    let first = counted_range a.at a.length n in
    let rest = counted_asks asks n apart.0 (λ b m. within b (inr m)) in
    let end = within a (inl refl) in
    let sum = sum_cons a asks in
    let here : min (a.at + a.length) n - min a.at n ≡ a.length = omega arith in
    split ∙ (omega arith)

-- places that come ahead of the reads, and those that were asked for
pub counted_places : (from : ℕ) (asks : List ReadAsk) (n : ℕ) → from ≤ n → AllApart asks → ((a : ReadAsk) → Member a asks → (from ≤ a.at) × (a.at + a.length ≤ n))
    → counted (λ k. nat_lt k from || list_any (λ (a : ReadAsk). is_asked a k) asks) n ≡ asked_bytes asks + from
unfolding is_asked
counted_places from asks n low apart within =
    let asked : ℕ → Bool = λ k. list_any (λ (a : ReadAsk). in_range a.at a.length k) asks in
    let split = counted_or (λ k. nat_lt k from) asked n (λ k before. false_unless (asked k) (λ is.
    let m = list_any_member (λ (b : ReadAsk). in_range b.at b.length k) asks is in
    let q = and_parts (nat_le m.0.at k) (nat_lt k (m.0.at + m.0.length)) m.2 in
    let a = leb-true m.0.at k q.0 in
    let b = ltb-true k from before in
    let c = (within m.0 m.1).0 in
    omega arith)) in
    let ahead : counted (λ k. nat_lt k from) n ≡ counted (in_range 0 from) n = counted_same (λ k. nat_lt k from) (in_range 0 from) n (λ k less. sym (from_zero from k)) in
    let range = counted_range 0 from n in
    let rest = counted_asks asks n apart (λ a m. (within a m).1) in
    let here : min (0 + from) n - min 0 n ≡ from = omega arith in
    split ∙ (omega arith)
