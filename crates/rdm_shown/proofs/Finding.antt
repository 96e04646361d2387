-- What is found among live receives and sends.
use Rattle.std.proofs.Common.{◌≡◌, ℕ, Bool, true, false, not, cond, List, [], ◌∷◌, ◌++◌, filter, find, Some, None, refl, ap, arith}
use Rattle.std.specs.Prelude.{◌==◌, option_map}
use Rattle.rdm_life.specs.Kept.{change_where}

-- what is found of one more element at the end
pub find_last : {A : Type 0} (p : A → Bool) (xs : List A) (x : A) → find p xs ≡ None → find p (xs ++ x ∷ []) ≡ cond (p x) (Some x) None
find_last p [] x none = refl
find_last {A} p (y ∷ xs) x none =
    (elim (p y) as (λ b. cond b (Some y) (find p xs) ≡ None → cond b (Some y) (find p (xs ++ x ∷ [])) ≡ cond (p x) (Some x) None) [
      | true ↦ λ h. absurd (no_none y h)
      | false ↦ λ h. find_last p xs x h
    ]) none
  where
    no_none : (a : A) → Some a ≡ None → ⊥
    no_none a e = cc

-- one that is found stays so where one more stands at the end
pub find_before : {A : Type 0} (p : A → Bool) (xs : List A) (x y : A) → find p xs ≡ Some y → find p (xs ++ x ∷ []) ≡ Some y
find_before p [] x y h = absurd (no_some h)
  where
    no_some : None ≡ Some y → ⊥
    no_some e = cc
find_before {A} p (z ∷ xs) x y h =
    (elim (p z) as (λ b. cond b (Some z) (find p xs) ≡ Some y → cond b (Some z) (find p (xs ++ x ∷ [])) ≡ Some y) [
      | true ↦ λ e. e
      | false ↦ λ e. find_before p xs x y e
    ]) h

-- an element that does not pass at the end changes nothing
pub find_aside : {A : Type 0} (p : A → Bool) (xs : List A) (x : A) → p x ≡ false → find p (xs ++ x ∷ []) ≡ find p xs
find_aside p [] x fails = rw fails refl
find_aside p (z ∷ xs) x fails = ap (λ o. cond (p z) (Some z) o) (find_aside p xs x fails)

-- nothing passes of those that are left where all that pass are left out
pub find_none_left : {A : Type 0} (p : A → Bool) (xs : List A) → find p (filter (λ x. not (p x)) xs) ≡ None
find_none_left p [] = refl
find_none_left {A} p (x ∷ xs) =
    elim (p x) as (λ b. p x ≡ b → find p (cond (not b) (x ∷ filter (λ y. not (p y)) xs) (filter (λ y. not (p y)) xs)) ≡ None) [
      | true ↦ λ e. find_none_left p xs
      | false ↦ λ e. rw e (find_none_left p xs)
    ] refl

-- what is found by one number is found still where those of another one are left out
pub find_left : {A : Type 0} (number : A → ℕ) (n m : ℕ) (xs : List A) → (n ≡ m → ⊥) → find (λ x. number x == m) (filter (λ x. not (number x == n)) xs) ≡ find (λ x. number x == m) xs
find_left number n m [] ne = refl
find_left {A} number n m (x ∷ xs) ne =
    elim (number x == n) as (λ b. (number x == n) ≡ b → find (λ y. number y == m) (cond (not b) (x ∷ filter (λ y. not (number y == n)) xs) (filter (λ y. not (number y == n)) xs)) ≡ cond (number x == m) (Some x) (find (λ y. number y == m) xs)) [
      | true ↦ λ is. (let other = differs (number x) is in rw other (find_left number n m xs ne))
      | false ↦ λ is. ap (λ o. cond (number x == m) (Some x) o) (find_left number n m xs ne)
    ] refl
  where
    differs : (k : ℕ) → (k == n) ≡ true → (k == m) ≡ false
    differs k is = grind (arith, ne)

-- where what passes and what is named stay, changes leave the name of what is found
pub find_named : {A B : Type 0} (name : A → B) (p t : A → Bool) (f : A → A) (xs : List A)
    → ((x : A) → name (f x) ≡ name x) → ((x : A) → p (f x) ≡ p x)
    → option_map name (find p (change_where t f xs)) ≡ option_map name (find p xs)
unfolding change_where
find_named name p t f [] named passes = refl
find_named {A} {B} name p t f (x ∷ xs) named passes =
    let rest = find_named name p t f xs named passes in
    elim (t x) as (λ b. option_map name (cond (p (cond b (f x) x)) (Some (cond b (f x) x)) (find p (change_where t f xs))) ≡ option_map name (cond (p x) (Some x) (find p xs))) [
      | true ↦ rw (passes x) (elim (p x) as (λ c. option_map name (cond c (Some (f x)) (find p (change_where t f xs))) ≡ option_map name (cond c (Some x) (find p xs))) [ true ↦ ap Some (named x) | false ↦ rest ])
      | false ↦ elim (p x) as (λ c. option_map name (cond c (Some x) (find p (change_where t f xs))) ≡ option_map name (cond c (Some x) (find p xs))) [ true ↦ refl | false ↦ rest ]
    ]
