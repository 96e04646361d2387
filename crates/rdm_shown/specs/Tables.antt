-- Values under numbers that are like the elements of a list.
use Rattle.std.specs.Prelude.{◌≡◌, ◌≤◌, ◌+◌, ℕ, List, [], ◌∷◌, Option, Some, None}

-- there are as many on both sides, and those at one place are alike
abbrev pub AreLike : {A B : Type 0} → (A → B → Type 0) → List A → List B → Type 0
AreLike R [] [] = Unit {0}
AreLike R (x ∷ xs) (y ∷ ys) = R x y × AreLike R xs ys
AreLike R _ _ = ⊥

-- there is one on both sides or on none, and they are alike
abbrev pub IsLike : {A B : Type 0} → (A → B → Type 0) → Option A → Option B → Type 0
IsLike R None None = Unit {0}
IsLike R (Some x) (Some y) = R x y
IsLike R _ _ = ⊥

-- the numbers rise, and the first is at least that
abbrev pub NumbersRise : {B : Type 0} → (B → ℕ) → (least : ℕ) → List B → Type 0
NumbersRise number least [] = Unit {0}
NumbersRise number least (y ∷ ys) = (least ≤ number y) × NumbersRise number (number y + 1) ys

-- the value stands under the number of the element, and they are alike
abbrev pub IsEntry : {A B : Type 0} → (B → ℕ) → (A → B → Type 0) → ℕ × A → B → Type 0
IsEntry number R entry y = (entry.0 ≡ number y) × R entry.1 y

-- values under rising numbers are like the elements with these numbers
pub record AreEntries {A B : Type 0} (number : B → ℕ) (R : A → B → Type 0) (entries : List (ℕ × A)) (ys : List B) : Type 0 where
  pub like : AreLike (IsEntry number R) entries ys
  pub rise : NumbersRise number 0 ys
