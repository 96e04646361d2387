-- The places of live receives lie in regions.
use Rattle.std.proofs.Common.{◌≡◌, ℕ, zero, suc, ◌+◌, ◌<◌, ◌≤◌, Bool, true, cond, ◌&&◌, List, [], ◌∷◌, ◌++◌, length, get_or, refl, arith, sym, ◌∙◌, ap, subst}
use Rattle.std.specs.Prelude.{◌==◌, nat_lt, nat_le}
use Rattle.std.proofs.Math.Dec.{eqb-suc-zero, eqb-zero-suc, eqb-suc-suc}
use Rattle.std.proofs.lemmas.Bool.{and_parts, eqb-true, ltb-true, leb-true}
use Rattle.rdm_lists.specs.Lists.{Member}
use Rattle.rdm_lists.proofs.Members.{member-append_left}
use Rattle.rdm_model.specs.Beginnings.{Own}
use Rattle.rdm_model.specs.Deeds.{Deed, Nothing}
use Rattle.rdm_model.specs.Matches.{Receive, receives, received_by, with_received}
use Rattle.rdm_law.proofs.Lives.Lives.{LifeLocal}
use Rattle.rdm_law.proofs.Fits.AnswersFit.{ranges_fit}
use Rattle.rdm_law.proofs.Fits.RegionsFit.{sizes, IsWithin, receives_within}
use Rattle.rdm_law.proofs.Fits.RegionSizes.{region_size}
use Rattle.rdm_num.specs.declared.request.RecvReq.{RecvReq}
use Rattle.rdm_life.specs.Keeps.{told, own_regions}
use Rattle.rdm_life.specs.Memory.{is_place_of}

-- an element, where the list is longer by one
pub get_or-last : {A : Type 0} (xs : List A) (y d : A) (n : ℕ) → get_or (xs ++ y ∷ []) n d ≡ cond (n == length xs) y (get_or xs n d)
get_or-last [] y d zero = refl
get_or-last [] y d (suc n) = ap (λ (b : Bool). cond b y d) (sym (eqb-suc-zero n))
get_or-last (x ∷ xs) y d zero = ap (λ (b : Bool). cond b y x) (sym (eqb-zero-suc (length xs)))
get_or-last (x ∷ xs) y d (suc n) = get_or-last xs y d n ∙ ap (λ (b : Bool). cond b y (get_or xs n d)) (sym (eqb-suc-suc n (length xs)))

-- past the end there is none
pub get_or-end : {A : Type 0} (xs : List A) (d : A) → get_or xs (length xs) d ≡ d
get_or-end [] d = refl
get_or-end (x ∷ xs) d = get_or-end xs d

-- the range of a receive that was accepted lies in its region, as it was before the last deed
pub range_before : (own : Own) (d : Deed) (log : List Deed) (r : Receive) → LifeLocal own (d ∷ log) → Member r (receives (d ∷ log))
    → r.req.at + r.req.len ≤ length (get_or (own_regions own log) r.req.region.0 [])
range_before own d log r local m =
    let within : IsWithin (sizes log) r = receives_within d log r (ranges_fit own (d ∷ log) local) m in
    let size = region_size own.limits.first (told own log) log r.req.region.0 (ranges_fit own log local.0) in
    omega arith

-- the range of an accepted receive lies in its region
pub range_within : (own : Own) (log : List Deed) (r : Receive) → LifeLocal own log → Member r (receives log)
    → r.req.at + r.req.len ≤ length (get_or (own_regions own log) r.req.region.0 [])
unfolding receives with_received received_by
range_within own log r local m = range_before own Nothing log r (local, tt) (member-append_left r (receives log) [] m)

-- what a place of a range says
pub place_parts : (req : RecvReq) (region place : ℕ) → is_place_of req region place ≡ true → (req.region.0 ≡ region) × (req.at ≤ place) × (place < req.at + req.len)
unfolding is_place_of
place_parts req region place h =
    let a = and_parts (req.region.0 == region && nat_le req.at place) (nat_lt place (req.at + req.len)) h in
    let b = and_parts (req.region.0 == region) (nat_le req.at place) a.0 in
    (eqb-true req.region.0 region b.0, leb-true req.at place b.1, ltb-true place (req.at + req.len) a.1)

-- a place of a range that lies in its region is one of that region
pub place_there : (regions : List (List ℕ)) (req : RecvReq) (region place : ℕ) → req.at + req.len ≤ length (get_or regions req.region.0 []) → is_place_of req region place ≡ true
    → place < length (get_or regions region [])
place_there regions req region place fit h =
    let p = place_parts req region place h in
    let high = p.2 in
    subst (λ (x : ℕ). place < length (get_or regions x [])) p.0 (omega arith)

-- a place of an accepted receive is one of its region
pub place_within : (own : Own) (log : List Deed) (r : Receive) (region place : ℕ) → LifeLocal own log → Member r (receives log) → is_place_of r.req region place ≡ true
    → place < length (get_or (own_regions own log) region [])
place_within own log r region place local m h = place_there (own_regions own log) r.req region place (range_within own log r local m) h
