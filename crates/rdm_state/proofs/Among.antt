-- One receive among others, by its number.
use Rattle.std.proofs.Common.{◌≡◌, ℕ, ◌+◌, Bool, true, false, not, cond, List, [], ◌∷◌, length, filter, find, map, Some, None, refl, sym, ap, ◌∙◌, subst, inl, inr, arith}
use Rattle.std.specs.Prelude.{◌==◌}
use Rattle.rdm_lists.specs.Lists.{Member}
use Rattle.rdm_lists.proofs.Members.{map-member}
use Rattle.rdm_life.specs.Kept.{change_where}
use Rattle.rdm_sound.specs.Premises.{AreOnce}

no_some : {A : Type 0} (x : A) → None ≡ Some x → ⊥
no_some x e = cc

some_same : {A : Type 0} (a b : A) → Some a ≡ Some b → a ≡ b
some_same a b h = cc

number_is : (a b : ℕ) → (a == b) ≡ true → a ≡ b
number_is a b h = grind (arith, h)

number_same : (a b : ℕ) → a ≡ b → (a == b) ≡ true
number_same a b h = grind (arith, h)

-- where numbers stand once, the one that is found is the only one
pub found_only : {A : Type 0} (number : A → ℕ) (n : ℕ) (xs : List A) (x y : A) → AreOnce (map number xs) → find (λ z. number z == n) xs ≡ Some x → Member y xs → number y ≡ n → y ≡ x
found_only number n [] x y once found m is = absurd m
found_only {A} number n (z ∷ xs) x y once found m is =
    (elim (number z == n) as (λ b. (number z == n) ≡ b → cond b (Some z) (find (λ w. number w == n) xs) ≡ Some x → y ≡ x) [
      | true ↦ λ here f. first m (number_is (number z) n here) ∙ some_same z x f
      | false ↦ λ aside f. later m aside (λ k. found_only number n xs x y once.1 f k is)
    ]) refl found
  where
    first : Member y (z ∷ xs) → number z ≡ n → y ≡ z
    first (inl e) here = sym e
    first (inr k) here = absurd (once.0 (subst (λ (j : ℕ). Member j (map number xs)) (is ∙ sym here) (map-member number y xs k)))

    later : Member y (z ∷ xs) → (number z == n) ≡ false → (Member y xs → y ≡ x) → y ≡ x
    later (inl e) aside rest = absurd (clash (sym aside ∙ number_same (number z) n (ap number e ∙ is)))
      where
        clash : false ≡ true → ⊥
        clash q = cc
    later (inr k) aside rest = rest k

-- none of another number passes
none_of : {A : Type 0} (number : A → ℕ) (n : ℕ) (xs : List A) → (Member n (map number xs) → ⊥) → filter (λ z. number z == n) xs ≡ []
none_of number n [] not_there = refl
none_of {A} number n (z ∷ xs) not_there =
    elim (number z == n) as (λ b. (number z == n) ≡ b → cond b (z ∷ filter (λ w. number w == n) xs) (filter (λ w. number w == n) xs) ≡ []) [
      | true ↦ λ here. absurd (not_there (inl (number_is (number z) n here)))
      | false ↦ λ aside. none_of number n xs (λ m. not_there (inr m))
    ] refl

-- nothing is left out where none has the number
all_left : {A : Type 0} (number : A → ℕ) (n : ℕ) (xs : List A) → (Member n (map number xs) → ⊥) → filter (λ z. not (number z == n)) xs ≡ xs
all_left number n [] not_there = refl
all_left {A} number n (z ∷ xs) not_there =
    elim (number z == n) as (λ b. (number z == n) ≡ b → cond (not b) (z ∷ filter (λ w. not (number w == n)) xs) (filter (λ w. not (number w == n)) xs) ≡ z ∷ xs) [
      | true ↦ λ here. absurd (not_there (inl (number_is (number z) n here)))
      | false ↦ λ aside. ap (λ ws. z ∷ ws) (all_left number n xs (λ m. not_there (inr m)))
    ] refl

-- the one that is found is all that pass
pub filter_one : {A : Type 0} (number : A → ℕ) (n : ℕ) (xs : List A) (x : A) → AreOnce (map number xs) → find (λ z. number z == n) xs ≡ Some x → filter (λ z. number z == n) xs ≡ x ∷ []
filter_one number n [] x once found = absurd (no_some x found)
filter_one {A} number n (z ∷ xs) x once found =
    (elim (number z == n) as (λ b. (number z == n) ≡ b → cond b (Some z) (find (λ w. number w == n) xs) ≡ Some x → cond b (z ∷ filter (λ w. number w == n) xs) (filter (λ w. number w == n) xs) ≡ x ∷ []) [
      | true ↦ λ here f. (let same = number_is (number z) n here in
          let rest = none_of number n xs (λ m. once.0 (subst (λ (j : ℕ). Member j (map number xs)) (sym same) m)) in
          ap (λ ws. z ∷ ws) rest ∙ ap (λ w. w ∷ []) (some_same z x f))
      | false ↦ λ aside f. filter_one number n xs x once.1 f
    ]) refl found

-- and one fewer are left
pub one_fewer : {A : Type 0} (number : A → ℕ) (n : ℕ) (xs : List A) (x : A) → AreOnce (map number xs) → find (λ z. number z == n) xs ≡ Some x → length (filter (λ z. not (number z == n)) xs) + 1 ≡ length xs
one_fewer number n [] x once found = absurd (no_some x found)
one_fewer {A} number n (z ∷ xs) x once found =
    (elim (number z == n) as (λ b. (number z == n) ≡ b → cond b (Some z) (find (λ w. number w == n) xs) ≡ Some x → length (cond (not b) (z ∷ filter (λ w. not (number w == n)) xs) (filter (λ w. not (number w == n)) xs)) + 1 ≡ length (z ∷ xs)) [
      | true ↦ λ here f. (let same = number_is (number z) n here in
          let rest = ap length (all_left number n xs (λ m. once.0 (subst (λ (j : ℕ). Member j (map number xs)) (sym same) m))) in
          omega (arith, rest))
      | false ↦ λ aside f. (let rest = one_fewer number n xs x once.1 f in omega (arith, rest))
    ]) refl found

-- as many are changed as there were
pub as_many : {A : Type 0} (t : A → Bool) (f : A → A) (xs : List A) → length (change_where t f xs) ≡ length xs
unfolding change_where
as_many t f [] = refl
as_many t f (x ∷ xs) = let rest = as_many t f xs in omega (arith, rest)
