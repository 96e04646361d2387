-- What stands at a place of a list.
use Rattle.std.proofs.Common.{[], List, Some, suc, zero, ℕ, ◌≡◌, ◌∷◌, ◌++◌, inl, inr, length, refl, arith, true, ◌-◌, ◌<◌, ◌+◌, ◌⊎◌, ap, map}
use Rattle.std.specs.Prelude.{slice_get, is_some}
use Rattle.rdm_lists.specs.Lists.{Member}

-- what stands at a place of a list stands there of a longer one
pub slice_get-append : {A : Type 0} (xs ys : List A) (n : ℕ) (x : A) → slice_get xs n ≡ Some x → slice_get (xs ++ ys) n ≡ Some x
slice_get-append [] ys n x h = cc
slice_get-append (y ∷ xs) ys zero x h = h
slice_get-append (y ∷ xs) ys (suc n) x h = slice_get-append xs ys n x h

-- what stands at a place is an element
pub slice_get-member : {A : Type 0} (xs : List A) (n : ℕ) (x : A) → slice_get xs n ≡ Some x → Member x xs
slice_get-member [] n x h = cc
slice_get-member (y ∷ xs) zero x h = inl cc
slice_get-member (y ∷ xs) (suc n) x h = inr (slice_get-member xs n x h)

-- the last element at its place
pub slice_get-push : {A : Type 0} (xs : List A) (y : A) → slice_get (xs ++ y ∷ []) (length xs) ≡ Some y
slice_get-push [] y = refl
slice_get-push (x ∷ xs) y = slice_get-push xs y

-- a list has an element at each place below its length
pub slice_get_some : {A : Type 0} (xs : List A) (k : ℕ) → k < length xs → is_some (slice_get xs k) ≡ true
slice_get_some [] k h = absurd (omega arith)
slice_get_some (x ∷ xs) zero h = refl
slice_get_some (x ∷ xs) (suc k) h = slice_get_some xs k (omega arith)

-- the element after the first ones
pub slice_get_seam : {A : Type 0} (xs : List A) (y : A) (ys : List A) → slice_get (xs ++ y ∷ ys) (length xs) ≡ Some y
slice_get_seam [] y ys = refl
slice_get_seam (x ∷ xs) y ys = slice_get_seam xs y ys

-- an element of two lists in a row is of the first, or past it
pub slice_get_split : {A : Type 0} (xs ys : List A) (n : ℕ) (x : A) → slice_get (xs ++ ys) n ≡ Some x
    → (slice_get xs n ≡ Some x) ⊎ ((k : ℕ) × (n ≡ length xs + k) × (slice_get ys k ≡ Some x))
slice_get_split [] ys n x h = inr (n, omega arith, h)
slice_get_split (y ∷ xs) ys zero x h = inl h
slice_get_split (y ∷ xs) ys (suc n) x h =
    elim (slice_get_split xs ys n x h) [ inl a ↦ inl a | inr a ↦ inr (a.0, (let e = a.1 in omega arith), a.2) ]

-- an element stands at some place
pub member_at : {A : Type 0} (x : A) (xs : List A) → Member x xs → (n : ℕ) × (slice_get xs n ≡ Some x)
member_at x [] h = elim h [ ]
member_at x (y ∷ xs) (inl a) = (0, ap Some a)
member_at x (y ∷ xs) (inr a) = let r = member_at x xs a in (suc r.0, r.1)

-- what stands at a place of a changed list comes from that place
pub slice_get-map_some : {A B : Type 0} (f : A → B) (xs : List A) (n : ℕ) (y : B) → slice_get (map f xs) n ≡ Some y → (x : A) × (slice_get xs n ≡ Some x) × (f x ≡ y)
slice_get-map_some f [] n y h = cc
slice_get-map_some f (x ∷ xs) zero y h = (x, refl, cc)
slice_get-map_some f (x ∷ xs) (suc n) y h = slice_get-map_some f xs n y h
