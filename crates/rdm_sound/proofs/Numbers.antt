-- The numbers from one on.
use Rattle.std.proofs.Common.{◌≡◌, ℕ, zero, suc, List, [], ◌∷◌, ◌++◌, map, refl, arith, sym, ◌∙◌, ap, subst}
use Rattle.rdm_lists.specs.Lists.{below}
use Rattle.rdm_lists.proofs.Members.{member-map}
use Rattle.rdm_life.proofs.Completing.{map_twice}
use Rattle.rdm_sound.specs.Premises.{AreOnce}

-- a map of two lists
map_both : {A B : Type 0} (f : A → B) (xs ys : List A) → map f (xs ++ ys) ≡ map f xs ++ map f ys
map_both f [] ys = refl
map_both f (x ∷ xs) ys = ap (λ zs. f x ∷ zs) (map_both f xs ys)

-- the numbers below one more begin with zero
pub below_first : (n : ℕ) → below (suc n) ≡ 0 ∷ map (λ k. suc k) (below n)
unfolding below
below_first zero = refl
below_first (suc n) = ap (λ xs. xs ++ suc n ∷ []) (below_first n) ∙ ap (λ xs. 0 ∷ xs) (sym (map_both (λ k. suc k) (below n) (n ∷ [])))

-- a map of them begins with that of zero
pub map_below_first : {A : Type 0} (f : ℕ → A) (n : ℕ) → map f (below (suc n)) ≡ f 0 ∷ map (λ k. f (suc k)) (below n)
map_below_first f n = ap (map f) (below_first n) ∙ ap (λ xs. f 0 ∷ xs) (map_twice f (λ k. suc k) (below n))

-- things of different numbers stand once
pub once_below : {A : Type 0} (f : ℕ → A) (n : ℕ) → ((j k : ℕ) → f j ≡ f k → j ≡ k) → AreOnce (map f (below n))
unfolding below
once_below f zero apart = tt
once_below {A} f (suc n) apart =
    subst (λ (xs : List A). AreOnce xs) (sym (map_below_first f n)) (
      (λ m. let q = member-map (λ k. f (suc k)) (f 0) (below n) m in let e = apart (suc q.0) 0 q.2 in absurd (omega arith)),
      once_below (λ k. f (suc k)) n (λ j k e. let s = apart (suc j) (suc k) e in omega arith),
    )
