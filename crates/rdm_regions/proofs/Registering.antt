-- The regions once one more is registered, and once nothing is leased.
use Rattle.std.proofs.Common.{◌≡◌, refl, sym, ap, subst, ◌∙◌, ℕ, suc, ◌+◌, ◌<◌, ◌≤◌, cond, List, [], ◌∷◌, ◌++◌, length, get_or, map as each, Option, Some, None, inl, inr, arith}
use Rattle.std.specs.Prelude.{is_none}
use Rattle.std.specs.List.{All, sum_by, filter_map}
use Rattle.std.specs.List.Sorted.{IsNonDecreasing}
use Rattle.std.specs.Map.{values_of}
use Rattle.std.specs.Ordering.{nat_cmp}
use Rattle.std.specs.FinMap as finite
use Rattle.std.proofs.lemmas.Bool.{cases_lt}
use Rattle.std.proofs.lemmas.Bool.Decides.{nat_tests}
use Rattle.std.proofs.lemmas.List.{length-map, length_push, get_or_push, get_or_append_left, get_or-map, map_push}
use Rattle.std.proofs.lemmas.List.Sums.{sum_by-cons}
use Rattle.rdm_num.specs.declared.parts.Span.{Span}
use Rattle.rdm_regions.specs.declared.key.HoldKey.{HoldKey}
use Rattle.rdm_regions.specs.declared.region.Region.{Region}
use Rattle.rdm_regions.specs.Registry.{Registry, with_region}
use Rattle.rdm_regions.specs.Steps.{IsNew}
use Rattle.rdm_regions.specs.Weights.{at_start, at_end, counts, has}
use Rattle.rdm_regions.specs.Tallies.{area_of, Lies, Marks, Tiled, Keeps, MayClose}
use Rattle.rdm_regions.proofs.Refusals.{registry_of}
use Rattle.rdm_regions.proofs.Entries.{Entries, by_number, map_of, entries_are, none_are}
use Rattle.rdm_regions.proofs.Busy.{weighs_none}
use Rattle.rdm_regions.proofs.Places.{full}
use Rattle.rdm_regions.proofs.Holding.{registry}

-- what a range weighs in a later region
no_start : (k : ℕ) (f : ℕ → ℕ) (y : Span) → y.region.0 < k → at_start k f y ≡ 0
no_start k f y lt = grind (arith, nat_tests)

no_end : (k : ℕ) (f : ℕ → ℕ) (y : Span) → y.region.0 < k → at_end k f y ≡ 0
no_end k f y lt = grind (arith, nat_tests)

no_count : (k : ℕ) (y : Span) → y.region.0 < k → counts k y ≡ 0
no_count k y lt = grind (arith, nat_tests)

no_place : (k place : ℕ) (y : Span) → y.region.0 < k → has k place y ≡ 0
no_place k place y lt = grind (arith, nat_tests)

module _ (regions : List Region) where
  -- ranges of the regions weigh nothing in the next one
  none_in_next : (f : Span → ℕ) → ((y : Span) → y.region.0 < length regions → f y ≡ 0) → (ys : List Span) → All (Lies regions) ys → sum_by f ys ≡ 0
  none_in_next f none [] all = refl
  none_in_next f none (y ∷ ys) all =
      let rest = none_in_next f none ys (λ k d lt. all (suc k) d (omega arith)) in
      omega (arith, sum_by-cons f y ys, none y (all 0 y (omega arith)).0)

  module _ (bytes : List ℕ) (r : Region) (new : IsNew bytes r) where
    lie_still : (xs : List Span) → All (Lies regions) xs → All (Lies (regions ++ r ∷ [])) xs
    lie_still xs all k d lt =
        let h = all k d lt in
        let x = get_or xs k d in
        let size = length_push regions r in
        (omega (arith, h.0), λ e. subst (λ (q : Region). x.at + x.len ≤ length q.home.cells) (sym (get_or_append_left regions (r ∷ []) e x.region.0 h.0)) (h.1 e))

    -- each region with its number
    each_one : (P : ℕ → Region → Type 0) → ((k : ℕ) (d : Region) → k < length regions → P k (get_or regions k d)) → P (length regions) r → (k : ℕ) (d : Region) → k < length (regions ++ r ∷ []) → P k (get_or (regions ++ r ∷ []) k d)
    each_one P old here k d lt =
        let size = length_push regions r in
        elim (cases_lt k (length regions)) [
          | inl below ↦ subst (P k) (sym (get_or_append_left regions (r ∷ []) d k below)) (old k d below)
          | inr past ↦
              let e : length regions ≡ k = omega arith in
              subst (P k) (sym (get_or_push regions r d k e)) (subst (λ n. P n r) e here)
        ]

    rises : (xs : List ℕ) → xs ≡ [] → IsNonDecreasing xs
    rises [] e i j d le lt = absurd (omega arith)
    rises (x ∷ xs) e i j d le lt = cc

    pub keeps_more : (held : Entries HoldKey) (leased : Entries ℕ) → Keeps regions held leased → Keeps (regions ++ r ∷ []) held leased
    keeps_more held leased k = record {
      held_order = k.held_order;
      leased_order = k.leased_order;
      held_lie = lie_still (values_of held) k.held_lie;
      leased_lie = lie_still (values_of leased) k.leased_lie;
      apart = k.apart;
      marks = each_one (λ n q. Marks n (values_of held) q) k.marks (record {
        starts_rise = rises r.starts.items new.starts;
        ends_rise = rises r.ends.items new.ends;
        starts = λ f. ap (sum_by f) new.starts ∙ sym (none_in_next (at_start (length regions) f) (λ y lt. no_start (length regions) f y lt) (values_of held) k.held_lie);
        ends = λ f. ap (sum_by f) new.ends ∙ sym (none_in_next (at_end (length regions) f) (λ y lt. no_end (length regions) f y lt) (values_of held) k.held_lie);
      });
      tiled = each_one (λ n q. Tiled n (values_of leased) q.home) k.tiled (record {
        start = new.start;
        whole = new.whole ∙ (sym (length-map bytes Some) ∙ ap length (sym new.cells));
        out = new.out ∙ sym (none_in_next (counts (length regions)) (λ y lt. no_count (length regions) y lt) (values_of leased) k.leased_lie);
        places = λ place lt.
            let long = ap length new.cells in
            let size = length-map {A = ℕ} {B = Option ℕ} bytes Some in
            let cell = ap (λ (o : Option ℕ). cond {A = ℕ} (is_none o) 1 0) (ap (λ cs. get_or cs place None) new.cells ∙ get_or-map Some bytes place 0 None (omega arith)) in
            none_in_next (has (length regions) place) (λ y below. no_place (length regions) place y below) (values_of leased) k.leased_lie ∙ sym cell;
      });
    }

    pub view_more : (held : Entries HoldKey) (leased : Entries ℕ) (now : Registry) → registry_of regions held leased ≡ now → registry_of (regions ++ r ∷ []) held leased ≡ with_region now r.home.block bytes
    view_more held leased now view =
        ap (λ a. registry a (map_of held) (map_of leased)) (map_push area_of regions r ∙ ap (λ cs. each area_of regions ++ record { block = r.home.block; cells = cs } ∷ []) new.cells) ∙ ap (λ n. with_region n r.home.block bytes) view

-- where nothing is leased, all blocks are whole at home
pub all_close : (regions : List Region) (held : Entries HoldKey) (leased : Entries ℕ) → Keeps regions held leased → map_of {R = nat_cmp} leased ≡ finite.empty → All MayClose regions
all_close regions held leased k empty n d lt =
    let none : leased ≡ [] = sym (entries_are by_number leased k.leased_order) ∙ (ap finite.entries empty ∙ none_are by_number) in
    let t = k.tiled n d lt in
    let home = (get_or regions n d).home in
    let bytes = filter_map (λ (c : Option ℕ). c) home.cells in (
      (bytes, sym (full home.cells (λ place below. weighs_none (is_none (get_or home.cells place None)) (sym (ap (λ es. sum_by (has n place) (values_of es)) none) ∙ t.places place below)))),
      t.start,
      t.whole,
    )
