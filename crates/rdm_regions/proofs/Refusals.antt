-- Why a range is refused.
use Rattle.std.proofs.Common.{◌≡◌, refl, sym, ap, subst, ◌∙◌, ℕ, ◌+◌, ◌<◌, ◌≤◌, Bool, true, ltb, leb, ◌↔◌, List, length, get_or, map as each, Some, None}
use Rattle.std.specs.Prelude.{slice_get, if◌then◌else◌, ◌||◌, option_map}
use Rattle.std.specs.List.{list_any, count_by}
use Rattle.std.proofs.lemmas.Option.{slice_get-map, slice_get-get_or, slice_get_past}
use Rattle.std.proofs.lemmas.Bool.{lt-ltb, le-ltb}
use Rattle.rdm_mr.specs.Tiles.{AreHome}
use Rattle.rdm_num.specs.declared.parts.Span.{Span}
use Rattle.rdm_regions.specs.declared.refused.RegionRefused.TheVariants.{NoRegion, Range, Busy}
use Rattle.rdm_regions.specs.declared.key.HoldKey.{HoldKey}
use Rattle.rdm_regions.specs.declared.region.Region.{Region}
use Rattle.rdm_regions.specs.Ranges.{meets, meets_one, key_cmp}
use Rattle.rdm_regions.specs.Registry.{Registry, refusal_in, hold_refusal, lease_refusal}
use Rattle.rdm_regions.specs.Tallies.{area_of, IsRegionOf, LacksRegion, busy_if, Keeps, Marks, Tiled}
use Rattle.std.specs.Map.{values_of}
use Rattle.std.specs.Ordering.{nat_cmp}
use Rattle.rdm_regions.proofs.Entries.{Entries, by_number, by_key, map_of, values_are}
use Rattle.rdm_regions.proofs.Busy.{leased_meets, held_meets}

-- what a clause sees of the fields
abbrev pub registry_of : List Region → Entries HoldKey → Entries ℕ → Registry
registry_of regions held leased = record { areas = each area_of regions; held = map_of held; leased = map_of leased }

module _ (x : Span) (regions : List Region) where
  area_there : (r : Region) → x.region.0 < length regions → get_or regions x.region.0 r ≡ r → slice_get (each area_of regions) x.region.0 ≡ Some (area_of r)
  area_there r lt is = slice_get-map area_of regions x.region.0 ∙ ap (option_map area_of) (slice_get-get_or regions x.region.0 r lt ∙ ap Some is)

  pub no_region : length regions ≤ x.region.0 → LacksRegion x regions NoRegion
  unfolding refusal_in
  no_region le busy = rw (slice_get-map area_of regions x.region.0 ∙ ap (option_map area_of) (slice_get_past regions x.region.0 le)) refl

  pub passes : (r : Region) → x.region.0 < length regions → get_or regions x.region.0 r ≡ r → length r.home.cells < x.at + x.len → LacksRegion x regions Range
  unfolding refusal_in
  passes r lt is over busy =
      ap (λ a. refusal_in a x busy) (area_there r lt is) ∙ ap (λ b. if b then Some Range else if busy then Some Busy else None) (lt-ltb (length r.home.cells) (x.at + x.len) over)

  lies : (r : Region) → x.region.0 < length regions → get_or regions x.region.0 r ≡ r → x.at + x.len ≤ length r.home.cells → (busy : Bool) → refusal_in (slice_get (each area_of regions) x.region.0) x busy ≡ busy_if busy
  unfolding refusal_in
  lies r lt is fits busy =
      ap (λ a. refusal_in a x busy) (area_there r lt is) ∙ ap (λ b. if b then Some Range else if busy then Some Busy else None) (le-ltb (length r.home.cells) (x.at + x.len) fits)

  pub is_region_of : (r : Region) → x.region.0 < length regions → ((d : Region) → get_or regions x.region.0 d ≡ r) → x.at + x.len ≤ length r.home.cells → IsRegionOf x regions r
  is_region_of r lt is fits = record { there = lt; is = is; fits = fits; refusal = lies r lt (is r) fits }

module _ (x : Span) (regions : List Region) (held : Entries HoldKey) (leased : Entries ℕ) (k : Keeps regions held leased) (r : Region) (o : IsRegionOf x regions r) where
  pub tiled_here : Tiled x.region.0 (values_of leased) r.home
  tiled_here = subst (λ (s : Region). Tiled x.region.0 (values_of leased) s.home) (o.is r) (k.tiled x.region.0 r o.there)

  pub marked_here : Marks x.region.0 (values_of held) r
  marked_here = subst (Marks x.region.0 (values_of held)) (o.is r) (k.marks x.region.0 r o.there)

  -- whether the range overlaps a leased one
  pub meets_leased : (busy : Bool) → (busy ≡ true ↔ (AreHome x.at x.len r.home.cells → ⊥)) → busy ≡ meets_one x (map_of {R = nat_cmp} leased)
  meets_leased busy h = leased_meets x (values_of leased) r.home tiled_here o.fits busy h ∙ ap (list_any (meets x)) (sym (values_are by_number leased k.leased_order))

  -- whether it overlaps a held one
  pub meets_held : (busy : Bool) → (busy ≡ true ↔ ((0 < x.len) × (count_by (λ n. leb n x.at) r.ends.items < count_by (λ n. ltb n (x.at + x.len)) r.starts.items))) → busy ≡ meets_one x (map_of {R = key_cmp} held)
  meets_held busy h =
      held_meets x (values_of held) r marked_here busy h ∙ ap (list_any (meets x)) (sym (values_are by_key held k.held_order))

  pub hold_refusal_is : (busy : Bool) → busy ≡ meets_one x (map_of {R = nat_cmp} leased) → busy_if busy ≡ hold_refusal (registry_of regions held leased) x
  hold_refusal_is busy is = ap busy_if is ∙ sym (o.refusal (meets_one x (map_of {R = nat_cmp} leased)))

  pub lease_refusal_is : (a b : Bool) → a ≡ meets_one x (map_of {R = nat_cmp} leased) → b ≡ meets_one x (map_of {R = key_cmp} held) → busy_if (a || b) ≡ lease_refusal (registry_of regions held leased) x
  lease_refusal_is a b p q = ap (λ v. busy_if (v || b)) p ∙ ap (λ v. busy_if (meets_one x (map_of {R = nat_cmp} leased) || v)) q ∙ sym (o.refusal (meets_one x (map_of {R = nat_cmp} leased) || meets_one x (map_of {R = key_cmp} held)))
