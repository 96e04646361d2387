-- Ranges that share no place and cover a stretch have as many places together as it has.
use Rattle.std.proofs.Common.{◌≡◌, ℕ, zero, suc, ◌+◌, ◌-◌, ◌<◌, ◌≤◌, min, true, false, cond, List, [], ◌∷◌, ◌++◌, refl, arith, inl, inr, sym, ◌∙◌, ap, subst}
use Rattle.std.specs.Prelude.{◌&&◌, nat_le, nat_lt, sum_by, fold}
use Rattle.std.proofs.lemmas.Bool.{and_parts, and_from, leb-true, le-leb, ltb-true, lt-ltb, cases_lt, false_from_ne_true}
use Rattle.rdm_lists.specs.Lists.{Member}
use Rattle.rdm_wire.specs.declared.ReadAsk.{ReadAsk}
use Rattle.rdm_law.proofs.Replies.Asks.{AsksShare}
use Rattle.rdm_lists.proofs.Members.{member-append_cases}

-- no two of the asks share a byte
abbrev pub AllApart : List ReadAsk → Type 0
AllApart [] = Unit {0}
AllApart (a ∷ as') = AllApart as' × ((b : ReadAsk) → Member b as' → AsksShare a b → ⊥)

-- one more ask that shares no byte with the others
pub apart_push : (as' : List ReadAsk) (b : ReadAsk) → AllApart as' → ((a : ReadAsk) → Member a as' → AsksShare a b → ⊥) → AllApart (as' ++ b ∷ [])
apart_push [] b a h = (tt, λ c m s. elim m [ ])
apart_push (x ∷ xs) b a h = (
  apart_push xs b a.0 (λ y m s. h y (inr m) s),
  λ c m s. elim (member-append_cases c xs (b ∷ []) m) [
    | inl k ↦ a.1 c k s
    | inr k ↦ elim k [ inl same ↦ h x (inl refl) (subst (λ (y : ReadAsk). AsksShare x y) (sym same) s) | inr never ↦ elim never [ ] ]
  ],
)

-- how many places of the ask lie below a bound
below_bound : ReadAsk → ℕ → ℕ
below_bound a k = min (a.at + a.length) k - a.at

-- 1 for an ask that has the place
has_place : ReadAsk → ℕ → ℕ
has_place a k = cond (nat_le a.at k && nat_lt k (a.at + a.length)) 1 0

-- the next place is of the ask or not
below_next : (a : ReadAsk) (k : ℕ) → below_bound a (suc k) ≡ below_bound a k + has_place a k
unfolding below_bound has_place
below_next a k =
    (elim (nat_le a.at k && nat_lt k (a.at + a.length)) as (λ t. (nat_le a.at k && nat_lt k (a.at + a.length)) ≡ t
    → min (a.at + a.length) (suc k) - a.at ≡ min (a.at + a.length) k - a.at + cond t 1 0) [
      | true ↦ λ is.
          let p = and_parts (nat_le a.at k) (nat_lt k (a.at + a.length)) is in
          let low = leb-true a.at k p.0 in
          let high = ltb-true k (a.at + a.length) p.1 in
          omega arith
      | false ↦ λ is. elim (cases_lt k a.at) [
        | inl less ↦ omega arith
        | inr more ↦ elim (cases_lt k (a.at + a.length)) [
          | inl within ↦ (let t = and_from (nat_le a.at k) (nat_lt k (a.at + a.length)) (le-leb a.at k more) (lt-ltb k (a.at + a.length) within) in cc)
          | inr past ↦ omega arith
        ]
      ]
    ]) refl

-- sums, by recursion
total : (ReadAsk → ℕ) → List ReadAsk → ℕ
total f [] = 0
total f (a ∷ as') = f a + total f as'

-- the same of all asks
total_next : (k : ℕ) (as' : List ReadAsk) → total (λ a. below_bound a (suc k)) as' ≡ total (λ a. below_bound a k) as' + total (λ a. has_place a k) as'
unfolding total
total_next k [] = omega arith
total_next k (a ∷ as') = let h = below_next a k in let r = total_next k as' in omega arith

-- an ask that does not have the place
lacks_place : (a : ReadAsk) (k : ℕ) → (a.at ≤ k → k < a.at + a.length → ⊥) → has_place a k ≡ 0
unfolding has_place
lacks_place a k h =
    let f : (nat_le a.at k && nat_lt k (a.at + a.length)) ≡ false =
    false_from_ne_true (nat_le a.at k && nat_lt k (a.at + a.length)) (λ t. let p = and_parts (nat_le a.at k) (nat_lt k (a.at + a.length)) t in h (leb-true a.at k p.0) (ltb-true k (a.at + a.length) p.1)) in
    rw f refl

-- an ask that has it
owns_place : (a : ReadAsk) (k : ℕ) → a.at ≤ k → k < a.at + a.length → has_place a k ≡ 1
unfolding has_place
owns_place a k low high =
    let t = and_from (nat_le a.at k) (nat_lt k (a.at + a.length)) (le-leb a.at k low) (lt-ltb k (a.at + a.length) high) in rw t refl

-- a place that no ask has
none_has : (k : ℕ) (as' : List ReadAsk) → ((b : ReadAsk) → Member b as' → b.at ≤ k → k < b.at + b.length → ⊥) → total (λ a. has_place a k) as' ≡ 0
unfolding total
none_has k [] h = refl
none_has k (a ∷ as') h = let x = lacks_place a k (h a (inl refl)) in let y = none_has k as' (λ b m. h b (inr m)) in omega arith

-- a place that an ask has is of one alone
one_has : (k : ℕ) (as' : List ReadAsk) (b : ReadAsk) → AllApart as' → Member b as' → b.at ≤ k → k < b.at + b.length → total (λ a. has_place a k) as' ≡ 1
unfolding total
one_has k [] b apart m low high = elim m [ ]
one_has k (a ∷ as') b apart (inl same) low high =
    let low' : a.at ≤ k = subst (λ (x : ReadAsk). x.at ≤ k) (sym same) low in
    let high' : k < a.at + a.length = subst (λ (x : ReadAsk). k < x.at + x.length) (sym same) high in
    let x = owns_place a k low' high' in
    let y = none_has k as' (λ c n l h. apart.1 c n (k, low', high', l, h)) in
    omega arith
one_has k (a ∷ as') b apart (inr m) low high =
    let x = lacks_place a k (λ l h. apart.1 b m (k, l, h, low, high)) in
    let y = one_has k as' b apart.0 m low high in
    omega arith

-- no ask has a place before the stretch
none_below : (as' : List ReadAsk) (from : ℕ) → ((a : ReadAsk) → Member a as' → from ≤ a.at) → total (λ a. below_bound a (from + 0)) as' ≡ 0
unfolding total below_bound
none_below [] from starts = refl
none_below (a ∷ as') from starts =
    let h = starts a (inl refl) in
    let r = none_below as' from (λ b m. starts b (inr m)) in
    omega arith

-- so many places from the start of the stretch on are covered
covered_to : (as' : List ReadAsk) (from n : ℕ) → AllApart as' → ((a : ReadAsk) → Member a as' → from ≤ a.at)
    → ((k : ℕ) → from ≤ k → k < from + n → (b : ReadAsk) × Member b as' × (b.at ≤ k) × (k < b.at + b.length))
    → total (λ a. below_bound a (from + n)) as' ≡ n
covered_to as' from zero apart starts cover =
    let e = none_below as' from starts in e
covered_to as' from (suc n) apart starts cover =
    let earlier = covered_to as' from n apart starts (λ k l h. cover k l (omega arith)) in
    let b = cover (from + n) (omega arith) (omega arith) in
    let one = one_has (from + n) as' b.0 apart b.1 b.2 b.3 in
    let next = total_next (from + n) as' in
    let e : from + suc n ≡ suc (from + n) = omega arith in
    ap (λ (x : ℕ). total (λ a. below_bound a x) as') e ∙ (omega arith)

-- all places of the asks lie before its end
all_below : (as' : List ReadAsk) (top : ℕ) → ((a : ReadAsk) → Member a as' → a.at + a.length ≤ top) → total (λ a. below_bound a top) as' ≡ total (λ a. a.length) as'
unfolding total below_bound
all_below [] top ends = refl
all_below (a ∷ as') top ends =
    let h = ends a (inl refl) in
    let r = all_below as' top (λ b m. ends b (inr m)) in
    omega arith

-- the sum of the lengths
total_sum : (as' : List ReadAsk) (n : ℕ) → fold (λ x (a : ReadAsk). x + a.length) n as' ≡ n + total (λ a. a.length) as'
unfolding total
total_sum [] n = omega arith
total_sum (a ∷ as') n = let r = total_sum as' (n + a.length) in omega arith

-- asks that share no byte, lie in a stretch and cover it have as many bytes as it has
pub covered_bytes : (as' : List ReadAsk) (from n : ℕ) → AllApart as' → ((a : ReadAsk) → Member a as' → (from ≤ a.at) × (a.at + a.length ≤ from + n))
    → ((k : ℕ) → from ≤ k → k < from + n → (b : ReadAsk) × Member b as' × (b.at ≤ k) × (k < b.at + b.length))
    → sum_by (λ (a : ReadAsk). a.length) as' ≡ n
covered_bytes as' from n apart within cover =
    let a = covered_to as' from n apart (λ a m. (within a m).0) cover in
    let b = all_below as' (from + n) (λ a m. (within a m).1) in
    let c = total_sum as' 0 in
    omega arith
