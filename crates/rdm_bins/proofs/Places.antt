-- Places by their order, and bins by whether they are the same.
use Rattle.std.proofs.Common.{◌≡◌, refl, sym, ap, subst, ◌∙◌, ℕ, zero, suc, ◌<◌, ◌≤◌, Bool, true, false, Option, Some, None, arith}
use Rattle.std.specs.Prelude.{nat_eq, T}
use Rattle.std.specs.Option.{option_eq}
use Rattle.std.specs.Ordering.{nat_cmp}
use Rattle.std.specs.Cmp.{nat_eq_equiv, unsigned_tied, Equal-is}
use Rattle.std.proofs.lemmas.Map.Lookups.{exact_unsigned}

-- by a test
pub by_test : {P : Type 0} (b : Bool) → (b ≡ true → P) → (b ≡ false → P) → P
by_test true on_true on_false = on_true refl
by_test false on_true on_false = on_false refl

-- nothing is both so and not
pub not_both_ways : {P : Type 0} (b : Bool) → b ≡ true → b ≡ false → P
not_both_ways b so not = absurd (subst T (sym so ∙ not) tt)

-- by the order of two numbers
pub by_order : {P : Type 0} (m n : ℕ) → (m < n → P) → (n ≤ m → P) → P
by_order zero zero below above = above (omega arith)
by_order zero (suc n) below above = below (omega arith)
by_order (suc m) zero below above = above (omega arith)
by_order (suc m) (suc n) below above = by_order m n (λ h. below (omega arith)) (λ h. above (omega arith))

-- numbers that are tested equal are the same
pub same_number : (a b : ℕ) → nat_eq a b ≡ true → a ≡ b
same_number a b h = exact_unsigned a b ((Equal-is (nat_cmp a b)).0 (unsigned_tied a b ∙ h))

-- a number is tested equal to itself
pub itself : (a : ℕ) → nat_eq a a ≡ true
itself a = nat_eq_equiv.refl a

-- numbers that differ are tested so
pub apart : (a b : ℕ) → a < b → nat_eq a b ≡ false
apart a b less = by_test (nat_eq a b) (λ e. let same = same_number a b e in absurd (omega arith)) (λ e. e)

-- numbers that differ are tested so
pub apart_turned : (a b : ℕ) → b < a → nat_eq a b ≡ false
apart_turned a b less = by_test (nat_eq a b) (λ e. let same = same_number a b e in absurd (omega arith)) (λ e. e)

-- the next numbers are tested equal where the numbers are
pub both_suc : (n k : ℕ) → nat_eq (suc n) (suc k) ≡ nat_eq n k
both_suc n k =
    by_test (nat_eq n k)
    (λ e. subst (λ m. nat_eq (suc n) (suc m) ≡ nat_eq n m) (same_number n k e) (itself (suc n) ∙ sym (itself n)))
    (λ e.
    by_test (nat_eq (suc n) (suc k))
    (λ t.
    let one : suc n ≡ suc k = same_number (suc n) (suc k) t in
    let same : n ≡ k = omega arith in
    not_both_ways (nat_eq n k) (subst (λ m. nat_eq n m ≡ true) same (itself n)) e)
    (λ f. f ∙ sym e))

-- bins that are tested equal are the same
pub same_bin : (a b : Option ℕ) → option_eq nat_eq a b ≡ true → a ≡ b
same_bin None None h = refl
same_bin None (Some b) h = absurd (subst T (sym h) tt)
same_bin (Some a) None h = absurd (subst T (sym h) tt)
same_bin (Some a) (Some b) h = ap Some (same_number a b h)

-- a bin is tested equal to itself
pub same_as_itself : (a : Option ℕ) → option_eq nat_eq a a ≡ true
same_as_itself None = refl
same_as_itself (Some a) = itself a
