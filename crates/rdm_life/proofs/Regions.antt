-- How many regions there are, and how long each is.
use Rattle.std.proofs.Common.{◌≡◌, ℕ, zero, suc, ◌+◌, Bool, cond, List, [], ◌∷◌, ◌++◌, map, length, get_or, refl, sym, ◌∙◌, ap, ap₂, arith, length-append, append-nil}
use Rattle.std.specs.Prelude.{◌==◌}
use Rattle.std.proofs.Math.Path.{fun_ext}
use Rattle.std.proofs.Math.Dec.{eqb-suc-zero, eqb-zero-suc, eqb-suc-suc}
use Rattle.std.proofs.lemmas.List.{length-map}
use Rattle.rdm_model.specs.declared.job.Instr.TheVariants.{Insert, Reg, Send, Recv}
use Rattle.rdm_model.specs.Beginnings.{Own}
use Rattle.rdm_model.specs.Deeds.{Deed, Did, Took, Polled}
use Rattle.rdm_model.specs.Regions.{region_by}
use Rattle.rdm_law.proofs.Lives.Lives.{LifeLocal}
use Rattle.rdm_law.proofs.Fits.RegionsFit.{sizes}
use Rattle.rdm_law.proofs.Fits.RegionSizes.{region_sizes, region_size}
use Rattle.rdm_law.proofs.Fits.AnswersFit.{ranges_fit}
use Rattle.rdm_life.specs.Kept.{Kept}
use Rattle.rdm_life.specs.Keeps.{told, own_regions, KeepsLives}
use Rattle.rdm_life.specs.Lives.{with_source, greet, after_insert}
use Rattle.rdm_life.specs.Forgetting.{forget}
use Rattle.rdm_life.specs.Handling.{after}
use Rattle.rdm_life.proofs.LivesLight.{light, after_light}

-- there are as many regions as sizes
regions_long : (own : Own) (log : List Deed) → LifeLocal own log → length (own_regions own log) ≡ length (sizes log)
regions_long own log local =
    sym (length-map (own_regions own log) length) ∙ ap (λ (ns : List ℕ). length ns) (region_sizes own.limits.first (told own log) log (ranges_fit own log local))

-- a deed registers one region or none
light_regions : (d : Deed) (v : Kept) → (light d v).region_count ≡ v.region_count + length (region_by d)
unfolding light region_by after_insert with_source greet forget
light_regions (Did (Insert life)) v = omega arith
light_regions (Did (Reg content)) v = omega arith
light_regions (Did (Send req)) v = omega arith
light_regions (Did (Recv req)) v = omega arith
light_regions (Took from item) v = omega arith
light_regions Polled v = omega arith
light_regions _ v = omega arith

-- the count of regions after a deed
pub region_count_step : (own : Own) (d : Deed) (log : List Deed) (v : Kept) → LifeLocal own (d ∷ log) → KeepsLives own log v
    → (after d v).region_count ≡ length (own_regions own (d ∷ log))
unfolding sizes
region_count_step own d log v local k =
    let step : (after d v).region_count ≡ v.region_count + length (region_by d) = (after_light d v).region_count ∙ light_regions d v in
    let kept : v.region_count ≡ length (sizes log) = k.region_count_is ∙ regions_long own log local.0 in
    let now : length (own_regions own (d ∷ log)) ≡ length (sizes log ++ map length (region_by d)) = regions_long own (d ∷ log) local in
    let sum = length-append (sizes log) (map length (region_by d)) in
    let new = length-map (region_by d) length in
    omega arith

-- a size at the end
get_or_last : (xs : List ℕ) (y n : ℕ) → get_or (xs ++ y ∷ []) n 0 ≡ cond (n == length xs) y (get_or xs n 0)
get_or_last [] y zero = refl
get_or_last [] y (suc n) = ap (λ (b : Bool). cond b y 0) (sym (eqb-suc-zero n))
get_or_last (x ∷ xs) y zero = ap (λ (b : Bool). cond b y x) (sym (eqb-zero-suc (length xs)))
get_or_last (x ∷ xs) y (suc n) = get_or_last xs y n ∙ ap (λ (b : Bool). cond b y (get_or xs n 0)) (sym (eqb-suc-suc n (length xs)))

-- the sizes after a deed, where there were so many
unfoldable pub size_by : Deed → (count : ℕ) → (ℕ → ℕ) → (region : ℕ) → ℕ
size_by (Did (Reg content)) count size region = cond (region == count) (length content) (size region)
size_by _ count size region = size region

-- a deed adds a size or none
light_sizes : (d : Deed) (v : Kept) (region : ℕ) → (light d v).region_size region ≡ size_by d v.region_count v.region_size region
unfolding light size_by after_insert with_source greet forget
light_sizes (Did (Insert life)) v region = refl
light_sizes (Did (Reg content)) v region = refl
light_sizes (Did (Send req)) v region = refl
light_sizes (Did (Recv req)) v region = refl
light_sizes (Took from item) v region = refl
light_sizes Polled v region = refl
light_sizes _ v region = refl

-- so do the definitions
sizes_next : (d : Deed) (ns : List ℕ) (region : ℕ) → get_or (ns ++ map length (region_by d)) region 0 ≡ size_by d (length ns) (λ r. get_or ns r 0) region
unfolding region_by size_by
sizes_next (Did (Reg content)) ns region = get_or_last ns (length content) region
sizes_next _ ns region = ap (λ (l : List ℕ). get_or l region 0) (append-nil ns)

-- the length of each region after a deed
pub region_size_step : (own : Own) (d : Deed) (log : List Deed) (v : Kept) → LifeLocal own (d ∷ log) → KeepsLives own log v → (region : ℕ)
    → (after d v).region_size region ≡ length (get_or (own_regions own (d ∷ log)) region [])
unfolding sizes
region_size_step own d log v local k region =
    let count : v.region_count ≡ length (sizes log) = k.region_count_is ∙ regions_long own log local.0 in
    let size : v.region_size ≡ (λ r. get_or (sizes log) r 0) =
    fun_ext (λ r. k.region_size_is r ∙ region_size own.limits.first (told own log) log r (ranges_fit own log local.0)) in
    let now : length (get_or (own_regions own (d ∷ log)) region []) ≡ get_or (sizes log ++ map length (region_by d)) region 0 =
    region_size own.limits.first (told own (d ∷ log)) (d ∷ log) region (ranges_fit own (d ∷ log) local) in
    ap (λ (f : ℕ → ℕ). f region) (after_light d v).region_size
    ∙ light_sizes d v region
    ∙ ap₂ (λ (c : ℕ) (f : ℕ → ℕ). size_by d c f region) count size
    ∙ sym (sizes_next d (sizes log) region)
    ∙ sym now
