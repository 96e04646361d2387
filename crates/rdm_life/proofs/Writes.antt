-- Which bytes a region has after bytes were put into it.
use Rattle.std.proofs.Common.{◌≡◌, ℕ, zero, suc, ◌+◌, ◌-◌, ◌<◌, ◌≤◌, List, [], ◌∷◌, ◌++◌, length, take, drop, get_or, refl, arith, ◌∙◌, ap}
use Rattle.std.specs.Prelude.{slice_get}
use Rattle.std.proofs.Math.ListN.{length-append}
use Rattle.std.proofs.lemmas.List.{length-take}
use Rattle.rdm_model.specs.Regions.{put, change_at}
use Rattle.rdm_law.proofs.Replies.Answered.{slice_get_past}

-- an element of the first of two lists
slice_get_first : {A : Type 0} (xs ys : List A) (n : ℕ) → n < length xs → slice_get (xs ++ ys) n ≡ slice_get xs n
slice_get_first [] ys n lt = absurd (omega arith)
slice_get_first (x ∷ xs) ys zero lt = refl
slice_get_first (x ∷ xs) ys (suc n) lt = slice_get_first xs ys n (omega arith)

-- an element of the first few
pub slice_get_take : {A : Type 0} (k : ℕ) (xs : List A) (n : ℕ) → n < k → slice_get (take k xs) n ≡ slice_get xs n
slice_get_take zero xs n lt = absurd (omega arith)
slice_get_take (suc k) [] n lt = refl
slice_get_take (suc k) (x ∷ xs) zero lt = refl
slice_get_take (suc k) (x ∷ xs) (suc n) lt = slice_get_take k xs n (omega arith)

-- an element of what follows them
slice_get_drop : {A : Type 0} (k : ℕ) (xs : List A) (n m : ℕ) → m ≡ k + n → slice_get (drop k xs) n ≡ slice_get xs m
slice_get_drop zero xs n m e = (let z : n ≡ m = omega arith in ap (slice_get xs) z)
slice_get_drop (suc k) [] n m e = refl
slice_get_drop (suc k) (x ∷ xs) n zero e = absurd (omega arith)
slice_get_drop (suc k) (x ∷ xs) n (suc m) e = slice_get_drop k xs n m (omega arith)

-- a byte before those that are put
pub put_before : (at : ℕ) (bytes region : List ℕ) (place : ℕ) → at ≤ length region → place < at → slice_get (put at bytes region) place ≡ slice_get region place
unfolding put
put_before at bytes region place fit lt =
    let size = length-take at region in
    let both = length-append (take at region) bytes in
    slice_get_first (take at region ++ bytes) (drop (at + length bytes) region) place (omega arith)
    ∙ slice_get_first (take at region) bytes place (omega arith) ∙ slice_get_take at region place lt

-- a byte of those that are put
pub put_in : (at : ℕ) (bytes region : List ℕ) (place k : ℕ) → at ≤ length region → place ≡ at + k → k < length bytes → slice_get (put at bytes region) place ≡ slice_get bytes k
unfolding put
put_in at bytes region place k fit e lt =
    let size = length-take at region in
    let both = length-append (take at region) bytes in
    slice_get_first (take at region ++ bytes) (drop (at + length bytes) region) place (omega arith)
    ∙ slice_get_past (take at region) bytes place k (omega arith)

-- a byte after them
pub put_after : (at : ℕ) (bytes region : List ℕ) (place : ℕ) → at ≤ length region → at + length bytes ≤ place → slice_get (put at bytes region) place ≡ slice_get region place
unfolding put
put_after at bytes region place fit le =
    let size = length-take at region in
    let both = length-append (take at region) bytes in
    let k : ℕ = place - (at + length bytes) in
    slice_get_past (take at region ++ bytes) (drop (at + length bytes) region) place k (omega arith)
    ∙ slice_get_drop (at + length bytes) region k place (omega arith)

-- an element that is changed
pub changed_here : {A : Type 0} (f : A → A) (n : ℕ) (xs : List A) (d : A) → n < length xs → get_or (change_at f n xs) n d ≡ f (get_or xs n d)
unfolding change_at
changed_here f n [] d lt = absurd (omega arith)
changed_here f zero (x ∷ xs) d lt = refl
changed_here f (suc n) (x ∷ xs) d lt = changed_here f n xs d (omega arith)

-- the others stay
pub changed_there : {A : Type 0} (f : A → A) (n m : ℕ) (xs : List A) (d : A) → (m ≡ n → ⊥) → get_or (change_at f n xs) m d ≡ get_or xs m d
unfolding change_at
changed_there f n m [] d other = refl
changed_there f zero zero (x ∷ xs) d other = absurd (other refl)
changed_there f zero (suc m) (x ∷ xs) d other = refl
changed_there f (suc n) zero (x ∷ xs) d other = refl
changed_there f (suc n) (suc m) (x ∷ xs) d other = changed_there f n m xs d (λ e. other (ap suc e))
