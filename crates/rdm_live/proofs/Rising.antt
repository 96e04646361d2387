-- Receives whose numbers rise.
use Rattle.std.proofs.Common.{◌≡◌, ◌≤◌, ◌<◌, refl, sym, ap, ◌∙◌, inl, inr, ℕ, ◌+◌, Bool, true, false, cond, List, [], ◌∷◌, Some, arith}
use Rattle.std.specs.Prelude.{find, ◌&&◌, nat_le}
use Rattle.std.proofs.lemmas.Bool.Decides.{nat_tests}
use Rattle.rdm_num.specs.declared.numbers.OpId.{OpId}
use Rattle.rdm_lists.specs.Lists.{Member}
use Rattle.rdm_receives.specs.View.{ReceiveView}
use Rattle.rdm_live.specs.View.{has_number, NumbersRise}

-- a number that is tested for is that one
pub number_is : (number : OpId) (r : ReceiveView) → has_number number r ≡ true → r.number ≡ number
number_is number r is = let same : r.number.0 ≡ number.0 = grind (arith, nat_tests, is) in λ i. record { 0 = same i }

-- a receive tests as its own number
pub number_has : (number : OpId) (r : ReceiveView) → r.number ≡ number → has_number number r ≡ true
number_has number r is = let same : r.number.0 ≡ number.0 = ap (λ (n : OpId). n.0) is in grind (arith, nat_tests, same)

-- no number is below the least one
pub least_of : (least : ℕ) (rs : List ReceiveView) (bound : ℕ) (q : ReceiveView) → NumbersRise least rs bound → Member q rs → least ≤ q.number.0
least_of least [] bound q rise m = elim m [ ]
least_of least (r ∷ rs) bound q rise (inl is) = let same = ap (λ (x : ReceiveView). x.number.0) is in omega (arith, same, rise.0)
least_of least (r ∷ rs) bound q rise (inr m) = let more = least_of (r.number.0 + 1) rs bound q rise.2 m in omega (arith, more, rise.0)

-- each number is below the bound
pub below_bound : (least : ℕ) (rs : List ReceiveView) (bound : ℕ) (q : ReceiveView) → NumbersRise least rs bound → Member q rs → q.number.0 < bound
below_bound least [] bound q rise m = elim m [ ]
below_bound least (r ∷ rs) bound q rise (inl is) = let same = ap (λ (x : ReceiveView). x.number.0) is in omega (arith, same, rise.1)
below_bound least (r ∷ rs) bound q rise (inr m) = below_bound (r.number.0 + 1) rs bound q rise.2 m

-- no two have one number
pub number_once : (least : ℕ) (rs : List ReceiveView) (bound : ℕ) (q r : ReceiveView) → NumbersRise least rs bound → Member q rs → Member r rs → q.number.0 ≡ r.number.0 → q ≡ r
number_once least [] bound q r rise m k same = elim m [ ]
number_once least (x ∷ xs) bound q r rise (inl a) (inl b) same = sym a ∙ b
number_once least (x ∷ xs) bound q r rise (inl a) (inr k) same =
    let more = least_of (x.number.0 + 1) xs bound r rise.2 k in
    let here = ap (λ (y : ReceiveView). y.number.0) a in
    absurd (omega (arith, more, here, same))
number_once least (x ∷ xs) bound q r rise (inr m) (inl b) same =
    let more = least_of (x.number.0 + 1) xs bound q rise.2 m in
    let here = ap (λ (y : ReceiveView). y.number.0) b in
    absurd (omega (arith, more, here, same))
number_once least (x ∷ xs) bound q r rise (inr m) (inr k) same = number_once (x.number.0 + 1) xs bound q r rise.2 m k same

-- a receive is found by its number
pub numbered_is : (least : ℕ) (rs : List ReceiveView) (bound : ℕ) (r : ReceiveView) → NumbersRise least rs bound → Member r rs → find (has_number r.number) rs ≡ Some r
numbered_is least [] bound r rise m = elim m [ ]
numbered_is least (x ∷ xs) bound r rise (inl is) = let yes = number_has r.number x (ap (λ (y : ReceiveView). y.number) is) in rw yes (ap Some is)
numbered_is least (x ∷ xs) bound r rise (inr m) =
    let more = least_of (x.number.0 + 1) xs bound r rise.2 m in
    let other : has_number r.number x ≡ false = grind (arith, nat_tests, more) in
    rw other (numbered_is (x.number.0 + 1) xs bound r rise.2 m)

-- two tests that agree on each find the same
pub find_same : {A : Type 0} (p q : A → Bool) (xs : List A) → ((x : A) → Member x xs → p x ≡ q x) → find p xs ≡ find q xs
find_same p q [] same = refl
find_same p q (x ∷ xs) same = λ i. cond (same x (inl refl) i) (Some x) (find_same p q xs (λ y m. same y (inr m)) i)

-- the first receive from a number on that passes is that of the number, if it passes
pub first_is : (least : ℕ) (rs : List ReceiveView) (bound : ℕ) (p : ReceiveView → Bool) (r : ReceiveView) → NumbersRise least rs bound → Member r rs → p r ≡ true → find (λ x. nat_le r.number.0 x.number.0 && p x) rs ≡ Some r
first_is least [] bound p r rise m does = elim m [ ]
first_is least (x ∷ xs) bound p r rise (inl is) does =
    let here = ap (λ (y : ReceiveView). y.number.0) is in
    let le : nat_le r.number.0 x.number.0 ≡ true = grind (arith, nat_tests, here) in
    let passes : p x ≡ true = ap p is ∙ does in
    rw (le, passes) (ap Some is)
first_is least (x ∷ xs) bound p r rise (inr m) does =
    let more = least_of (x.number.0 + 1) xs bound r rise.2 m in
    let below : nat_le r.number.0 x.number.0 ≡ false = grind (arith, nat_tests, more) in
    rw below (first_is (x.number.0 + 1) xs bound p r rise.2 m does)
