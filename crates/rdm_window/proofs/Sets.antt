-- Sets of the numbers below a bound that pass.
use Rattle.std.proofs.Common.{◌≡◌, refl, sym, ap, ◌∙◌, ℕ, zero, suc, ◌<◌, Bool, true, false, arith, inl, inr}
use Rattle.std.specs.Prelude.{not, ◌&&◌, ◌||◌, nat_eq, nat_lt, if◌then◌else◌}
use Rattle.std.specs.Ordering.{nat_cmp}
use Rattle.std.specs.Cmp.{nat_cmp_total, unsigned_tied}
use Rattle.std.specs.FinSet as set
use Rattle.std.proofs.lemmas.Bool.{cases_lt, lt-ltb, le-ltb, ne_eqb, eqb-true}
use Rattle.std.proofs.lemmas.Bool.Decides.{nat_tests}
use Rattle.rdm_window.specs.Numbers.{numbers_where}

-- below the next number is below, or at
below_next : (q n : ℕ) → nat_lt q (suc n) ≡ (nat_eq q n || nat_lt q n)
below_next q n = grind (arith, nat_tests)

-- the last number passes
with_last : (a b c : Bool) → (a ≡ true → c ≡ true) → (a || (b && c)) ≡ ((a || b) && c)
with_last true b c h = sym (h refl)
with_last false b c h = refl

-- the last number does not pass
without_last : (a b c : Bool) → (a ≡ true → c ≡ false) → (b && c) ≡ ((a || b) && c)
without_last true true c h = refl
without_last true false c h = sym (h refl)
without_last false b c h = refl

-- the set has the numbers below the bound that pass
pub contains-where : (n : ℕ) (p : ℕ → Bool) (q : ℕ) → set.contains (numbers_where n p) q ≡ (nat_lt q n && p q)
unfolding numbers_where
contains-where zero p q = set.contains-empty nat_cmp q ∙ ap (λ b. b && p q) (sym (le-ltb q 0 (omega arith)))
contains-where (suc n) p q =
    elim (p n) as (λ b. p n ≡ b → set.contains (if b then set.insert (numbers_where n p) n else numbers_where n p) q ≡ (nat_lt q (suc n) && p q)) [
      | true ↦ λ e.
          set.contains-insert nat_cmp_total (numbers_where n p) n q
          ∙ (λ i. unsigned_tied q n i || contains-where n p q i)
          ∙ with_last (nat_eq q n) (nat_lt q n) (p q) (λ at. ap p (eqb-true q n at) ∙ e)
          ∙ ap (λ b. b && p q) (sym (below_next q n))
      | false ↦ λ e.
          contains-where n p q
          ∙ without_last (nat_eq q n) (nat_lt q n) (p q) (λ at. ap p (eqb-true q n at) ∙ e)
          ∙ ap (λ b. b && p q) (sym (below_next q n))
    ] refl

-- a set with the same numbers is that set
same_where : (n : ℕ) (p : ℕ → Bool) (s : set.FinSet nat_cmp) → ((q : ℕ) → set.contains s q ≡ (nat_lt q n && p q)) → numbers_where n p ≡ s
same_where n p s h = set.same_set nat_cmp_total set.nat_cmp-IsAntisymmetric _ _ (λ q. contains-where n p q ∙ sym (h q))

-- below the bound it is what passes
pub contains-below : (n : ℕ) (p : ℕ → Bool) (q : ℕ) → q < n → set.contains (numbers_where n p) q ≡ p q
contains-below n p q h = contains-where n p q ∙ ap (λ b. b && p q) (lt-ltb q n h)

-- no number passes
pub where_none : (n : ℕ) (p : ℕ → Bool) → ((q : ℕ) → q < n → p q ≡ false) → numbers_where n p ≡ set.empty
where_none n p h = same_where n p set.empty (λ q.
    set.contains-empty nat_cmp q
    ∙ elim (cases_lt q n) [
      | inl below ↦ sym (h q below) ∙ ap (λ b. b && p q) (sym (lt-ltb q n below))
      | inr above ↦ ap (λ b. b && p q) (sym (le-ltb q n above))
    ])

-- one more number passes
pub where_insert : (n : ℕ) (p r : ℕ → Bool) (k : ℕ) → k < n → ((q : ℕ) → q < n → r q ≡ (nat_eq q k || p q)) → numbers_where n r ≡ set.insert (numbers_where n p) k
where_insert n p r k fits h = same_where n r _ (λ q.
    set.contains-insert nat_cmp_total (numbers_where n p) k q
    ∙ (λ i. unsigned_tied q k i || contains-where n p q i)
    ∙ elim (cases_lt q n) [
      | inl below ↦ ap (λ b. nat_eq q k || (b && p q)) (lt-ltb q n below) ∙ sym (h q below) ∙ ap (λ b. b && r q) (sym (lt-ltb q n below))
      | inr above ↦
          ap (λ b. nat_eq q k || (b && p q)) (le-ltb q n above)
          ∙ ap (λ b. b || false) (ne_eqb q k (omega arith))
          ∙ ap (λ b. b && r q) (sym (le-ltb q n above))
    ])

-- both do not hold where the second does not
pub and_false : (b : Bool) → (b && false) ≡ false
and_false true = refl
and_false false = refl

-- one number passes no more
pub where_remove : (n : ℕ) (p r : ℕ → Bool) (k : ℕ) → ((q : ℕ) → q < n → r q ≡ (not (nat_eq q k) && p q)) → numbers_where n r ≡ set.remove (numbers_where n p) k
where_remove n p r k h = same_where n r _ (λ q.
    set.contains-remove nat_cmp_total (numbers_where n p) k q
    ∙ (λ i. not (unsigned_tied q k i) && contains-where n p q i)
    ∙ elim (cases_lt q n) [
      | inl below ↦ ap (λ b. not (nat_eq q k) && (b && p q)) (lt-ltb q n below) ∙ sym (h q below) ∙ ap (λ b. b && r q) (sym (lt-ltb q n below))
      | inr above ↦
          ap (λ b. not (nat_eq q k) && (b && p q)) (le-ltb q n above)
          ∙ and_false (not (nat_eq q k))
          ∙ ap (λ b. b && r q) (sym (le-ltb q n above))
    ])
