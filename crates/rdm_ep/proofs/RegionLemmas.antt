-- Regions that are written.
use Rattle.std.proofs.Common.{◌≡◌, ℕ, zero, suc, ◌+◌, ◌<◌, ◌≤◌, List, [], ◌∷◌, ◌++◌, map, length, take, drop, get_or, refl, arith, ◌∙◌, ap}
use Rattle.std.specs.Prelude.{slice_set}
use Rattle.std.proofs.Math.ListN.{length-append, length-drop}
use Rattle.std.proofs.lemmas.List.{length-take}
use Rattle.rdm_model.specs.Regions.{change_at, put}
use Rattle.rdm_ep.specs.declared.state.Posted.{Posted}
use Rattle.rdm_ep.specs.Counts.{RangesFit}

-- to write one element is to change it
pub map_written : {A : Type 0} (f : A → List ℕ) (g : List ℕ → List ℕ) (xs : List A) (i : ℕ) (x d : A) → i < length xs → f x ≡ g (f (get_or xs i d))
    → map f (slice_set xs i x) ≡ change_at g i (map f xs)
unfolding change_at
map_written f g [] i x d h e = absurd (omega arith)
map_written f g (y ∷ xs) zero x d h e = ap (λ ys. ys ∷ map f xs) e
map_written f g (y ∷ xs) (suc i) x d h e = ap (λ ys. f y ∷ ys) (map_written f g xs i x d (omega arith) e)

-- a change keeps how many regions there are
pub length_changed : (g : List ℕ → List ℕ) (i : ℕ) (rs : List (List ℕ)) → length (change_at g i rs) ≡ length rs
unfolding change_at
length_changed g i [] = refl
length_changed g zero (r ∷ rs) = refl
length_changed g (suc i) (r ∷ rs) = ap suc (length_changed g i rs)

-- bytes that lie in a region keep its size
pub put_size : (at : ℕ) (bytes region : List ℕ) → at + length bytes ≤ length region → length (put at bytes region) ≡ length region
unfolding put
put_size at bytes region h =
    let a = length-take at region in
    let b = length-drop (at + length bytes) region in
    let c = length-append (take at region ++ bytes) (drop (at + length bytes) region) in
    let d = length-append (take at region) bytes in
    let e : length (put at bytes region) ≡ length ((take at region ++ bytes) ++ drop (at + length bytes) region) = refl in
    omega arith

-- a change that keeps the size of the region at its place keeps the size of each
pub size_changed : (g : List ℕ → List ℕ) (i : ℕ) (rs : List (List ℕ)) (k : ℕ) → length (g (get_or rs i [])) ≡ length (get_or rs i [])
    → length (get_or (change_at g i rs) k []) ≡ length (get_or rs k [])
unfolding change_at
size_changed g i [] k h = refl
size_changed g zero (r ∷ rs) zero h = h
size_changed g zero (r ∷ rs) (suc k) h = refl
size_changed g (suc i) (r ∷ rs) zero h = refl
size_changed g (suc i) (r ∷ rs) (suc k) h = size_changed g i rs k h

-- the first bytes that a range has room for lie where it lies
pub taken_lies : (at len size : ℕ) (bytes all : List ℕ) → bytes ≡ take len all → at + len ≤ size → at + length bytes ≤ size
taken_lies at len size bytes all e h = let n = ap length e ∙ length-take len all in omega arith

-- receives lie in their regions after bytes were put that lie in one
pub ranges_put : (i at : ℕ) (bytes : List ℕ) (rs ss : List (List ℕ)) (posted : List Posted) → ss ≡ change_at (put at bytes) i rs
    → at + length bytes ≤ length (get_or rs i []) → RangesFit rs posted → RangesFit ss posted
ranges_put i at bytes rs ss posted e h f p m =
    let a = (f p m).0 in
    let b = (f p m).1 in
    let n = ap length e ∙ length_changed (put at bytes) i rs in
    let s = size_changed (put at bytes) i rs p.req.region.0 (put_size at bytes (get_or rs i []) h) in
    let t : length (get_or ss p.req.region.0 []) ≡ length (get_or rs p.req.region.0 []) = ap (λ (qs : List (List ℕ)). length (get_or qs p.req.region.0 [])) e ∙ s in
    (omega arith, omega arith)
