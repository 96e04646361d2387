-- The places of regions, once one more is registered and once a range of one is written.
use Rattle.std.proofs.Common.{◌≡◌, ℕ, zero, suc, ◌<◌, List, [], ◌∷◌, ◌++◌, length, map, get_or, Option, Some, None, refl, ap, arith}
use Rattle.std.specs.Prelude.{slice_get, replicate}
use Rattle.rdm_regions.specs.Registry.{Area, cells_at, laid_in}
use Rattle.rdm_mr.specs.Tiles.{laid}

-- the region that is registered
pub cells_new : (areas : List Area) (a : Area) → cells_at (length areas) (areas ++ a ∷ []) ≡ a.cells
cells_new [] a = refl
cells_new (b ∷ areas) a = cells_new areas a

-- another region once it is
pub cells_old : (areas : List Area) (a : Area) (region : ℕ) → (region ≡ length areas → ⊥) → cells_at region (areas ++ a ∷ []) ≡ cells_at region areas
cells_old [] a zero ne = absurd (ne refl)
cells_old [] a (suc region) ne = refl
cells_old (b ∷ areas) a zero ne = refl
cells_old (b ∷ areas) a (suc region) ne = cells_old areas a region (λ e. ne (ap suc e))

-- a region that is there
pub cells_are : (areas : List Area) (region : ℕ) (area : Area) → slice_get areas region ≡ Some area → cells_at region areas ≡ area.cells
cells_are [] region area h = absurd (no_some h)
  where
    no_some : None ≡ Some area → ⊥
    no_some e = cc
cells_are (b ∷ areas) zero area h = ap (λ (a : Area). a.cells) (some_same b area h)
  where
    some_same : (x y : Area) → Some x ≡ Some y → x ≡ y
    some_same x y e = cc
cells_are (b ∷ areas) (suc region) area h = cells_are areas region area h

-- one that is not
pub cells_past : (areas : List Area) (region : ℕ) → slice_get areas region ≡ None → cells_at region areas ≡ []
cells_past [] region h = refl
cells_past (b ∷ areas) zero h = absurd (no_none h)
  where
    no_none : Some b ≡ None → ⊥
    no_none e = cc
cells_past (b ∷ areas) (suc region) h = cells_past areas region h

-- the region of which a range is written
pub cells_written : (areas : List Area) (region at : ℕ) (xs : List (Option ℕ)) (area : Area) → slice_get areas region ≡ Some area → cells_at region (laid_in region at xs areas) ≡ laid at xs area.cells
cells_written [] region at xs area h = absurd (no_some h)
  where
    no_some : None ≡ Some area → ⊥
    no_some e = cc
cells_written (b ∷ areas) zero at xs area h = ap (λ (a : Area). laid at xs a.cells) (some_same b area h)
  where
    some_same : (x y : Area) → Some x ≡ Some y → x ≡ y
    some_same x y e = cc
cells_written (b ∷ areas) (suc region) at xs area h = cells_written areas region at xs area h

-- another region
pub cells_other : (areas : List Area) (region i at : ℕ) (xs : List (Option ℕ)) → (region ≡ i → ⊥) → cells_at region (laid_in i at xs areas) ≡ cells_at region areas
cells_other [] region i at xs ne = refl
cells_other (b ∷ areas) zero zero at xs ne = absurd (ne refl)
cells_other (b ∷ areas) zero (suc i) at xs ne = refl
cells_other (b ∷ areas) (suc region) zero at xs ne = refl
cells_other (b ∷ areas) (suc region) (suc i) at xs ne = cells_other areas region i at xs (λ e. ne (ap suc e))

-- as many regions
pub areas_stay : (areas : List Area) (i at : ℕ) (xs : List (Option ℕ)) → length (laid_in i at xs areas) ≡ length areas
areas_stay [] i at xs = refl
areas_stay (b ∷ areas) zero at xs = refl
areas_stay (b ∷ areas) (suc i) at xs = let rest = areas_stay areas i at xs in omega arith

-- the byte at a place, as an option
pub get_some : (bytes : List ℕ) (k : ℕ) → get_or (map Some bytes) k None ≡ slice_get bytes k
get_some [] k = refl
get_some (b ∷ bytes) zero = refl
get_some (b ∷ bytes) (suc k) = get_some bytes k

-- a byte that is there
pub get_there : (bytes : List ℕ) (k : ℕ) → k < length bytes → get_or (map Some bytes) k None ≡ Some (get_or bytes k 0)
get_there [] k lt = absurd (omega arith)
get_there (b ∷ bytes) zero lt = refl
get_there (b ∷ bytes) (suc k) lt = get_there bytes k (omega arith)

-- a place that is out
pub get_out : (len k : ℕ) → get_or (replicate {A = Option ℕ} len None) k None ≡ None
get_out zero k = refl
get_out (suc len) zero = refl
get_out (suc len) (suc k) = get_out len k
