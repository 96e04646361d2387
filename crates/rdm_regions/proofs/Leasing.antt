-- The regions while a part of one goes out, and while it comes back.
use Rattle.std.proofs.Common.{◌≡◌, refl, sym, ap, subst, ◌∙◌, ℕ, zero, suc, ◌+◌, ◌<◌, ◌≤◌, false, cond, List, [], ◌∷◌, length, get_or, map as each, replicate, Some, None, arith}
use Rattle.std.specs.Prelude.{slice_set, slice_get, option_map}
use Rattle.std.specs.List.{list_any}
use Rattle.rdm_regions.specs.Ranges.{meets}
use Rattle.std.specs.List.Sorted.{IsStrictlySortedBy}
use Rattle.std.specs.Map.{keys_of, values_of, lookup, remove_entry}
use Rattle.std.specs.BTreeMap.{is_at, insert_entry}
use Rattle.std.specs.Ordering.{nat_cmp, is_eq}
use Rattle.std.specs.Cmp.{nat_cmp_total, tied_itself}
use Rattle.std.proofs.lemmas.List.{length-set, get_or-set_same}
use Rattle.std.specs.FinMap as finite
use Rattle.std.proofs.lemmas.Option.{slice_get-map, slice_get-get_or}
use Rattle.rdm_mr.specs.Part.{Piece}
use Rattle.rdm_mr.specs.Tiles.{Tiles, laid}
use Rattle.rdm_num.specs.declared.parts.Span.{Span}
use Rattle.rdm_regions.specs.declared.key.HoldKey.{HoldKey}
use Rattle.rdm_regions.specs.declared.region.Region.{Region}
use Rattle.rdm_regions.specs.Registry.{Registry, Area, hold_refusal, lease_refusal, with_lease, returned, after_lease_back, laid_in, cells_at, bytes_at, IsPartOf, IsLeased, IsLeaseOf}
use Rattle.rdm_regions.specs.Steps.{MayLift, IsLifted, IsLiftedPart, IsPlaced, IsOut, IsPutBack, home_bytes}
use Rattle.rdm_regions.specs.Tallies.{area_of, Lies, Tiled, Keeps}
use Rattle.rdm_regions.proofs.Refusals.{registry_of}
use Rattle.rdm_regions.proofs.Entries.{Entries, by_number, map_of, get_is_lookup, map_with, map_without, sum_without, undone}
use Rattle.rdm_regions.proofs.RegionChanges.{IsWith, leased_out}
use Rattle.rdm_regions.proofs.Changes.{at_index, may_hold, may_lease, at_home, keeps_leased, keeps_returned, areas_laid, areas_same, keeps_reserved}
use Rattle.rdm_regions.proofs.Holding.{registry, Updated, found_lies}

-- the cells of a region as a clause sees them
pub cells_are : (regions : List Region) (i : ℕ) (r : Region) → i < length regions → r ≡ get_or regions i r → cells_at i (each area_of regions) ≡ r.home.cells
cells_are regions i r lt v = at regions i lt ∙ ap (λ (q : Region). q.home.cells) (sym v)
  where
    at : (qs : List Region) (j : ℕ) → j < length qs → cells_at j (each area_of qs) ≡ (get_or qs j r).home.cells
    at [] j below = absurd (omega arith)
    at (q ∷ qs) zero below = refl
    at (q ∷ qs) (suc j) below = at qs j (omega arith)

-- a part that lies where the range does is that of the range
pub part_of : (regions : List Region) (held : Entries HoldKey) (leased : Entries ℕ) (x : Span) (r : Region) (part : Piece) → x.region.0 < length regions → r ≡ get_or regions x.region.0 r → r.home.whole ≡ length r.home.cells → IsPlaced x r.home part → IsPartOf (registry_of regions held leased) x part
part_of regions held leased x r part lt v whole p = record {
  len = p.len;
  placed = λ some area is.
      let here : slice_get (each area_of regions) x.region.0 ≡ Some (area_of r) = slice_get-map area_of regions x.region.0 ∙ ap (option_map area_of) (slice_get-get_or regions x.region.0 r lt ∙ ap Some (sym v)) in
      let same : area_of r ≡ area = some_same (sym here ∙ is) in
      let at = p.placed some in
      (at.0 ∙ ap (λ (a : Area). a.block) same, at.1 ∙ (whole ∙ ap (λ (a : Area). length a.cells) same), at.2);
  apart = p.apart;
}
  where
    some_same : {a b : Area} → Some a ≡ Some b → a ≡ b
    some_same e = cc

-- and the other way round
pub placed_of : (regions : List Region) (held : Entries HoldKey) (leased : Entries ℕ) (x : Span) (r : Region) (part : Piece) → x.region.0 < length regions → r ≡ get_or regions x.region.0 r → r.home.whole ≡ length r.home.cells → IsPartOf (registry_of regions held leased) x part → IsPlaced x r.home part
placed_of regions held leased x r part lt v whole p = record {
  len = p.len;
  placed = λ some.
      let at = p.placed some (area_of r) (slice_get-map area_of regions x.region.0 ∙ ap (option_map area_of) (slice_get-get_or regions x.region.0 r lt ∙ ap Some (sym v))) in
      (at.0, at.1 ∙ sym whole, at.2);
  apart = p.apart;
}

module _ (regions : List Region) (held : Entries HoldKey) (leased : Entries ℕ) (k : Keeps regions held leased) (now : Registry) (view : registry_of regions held leased ≡ now) (x : Span) (recv : ℕ) (allowed : lease_refusal now x ≡ None)
    (free : finite.get now.leased recv ≡ None) (es : Entries ℕ) (is : es ≡ insert_entry nat_cmp leased recv x) where
  pub lease_allowed : Lies regions x × (list_any (meets x) (values_of leased) ≡ false) × (list_any (meets x) (values_of held) ≡ false)
  lease_allowed = may_lease x regions held leased k (ap (λ r. lease_refusal r x) view ∙ allowed)

  pub lease_there : x.region.0 < length regions
  lease_there = lease_allowed.0.0

  lacks : lookup (is_at (nat_cmp recv)) leased ≡ None
  lacks = sym (get_is_lookup by_number leased recv) ∙ (ap (λ (n : Registry). finite.get n.leased recv) view ∙ free)

  module _ (r : Region) (v : r ≡ get_or regions x.region.0 r) where
    pub may_lift : MayLift x r
    may_lift = at_home x regions held leased k r lease_allowed.0 (sym v) lease_allowed.1

    tiled : Tiled x.region.0 (values_of leased) r.home
    tiled = subst (λ (q : Region). Tiled x.region.0 (values_of leased) q.home) (sym v) (k.tiled x.region.0 r lease_there)

    pub lifted_part : (part : Piece) → IsLiftedPart x r part → IsLeased now x part
    lifted_part part p =
        subst (λ n. IsLeased n x part) view
        (part_of regions held leased x r part lease_there v tiled.whole p.0, p.1 ∙ ap (home_bytes x.at x.len) (sym (cells_are regions x.region.0 r lease_there v)))

    pub lifted_keeps : (s : Region) → IsLifted x r s → IsStrictlySortedBy nat_cmp (keys_of es) → Keeps (slice_set regions x.region.0 s) held es
    lifted_keeps s m order =
        subst (Keeps (slice_set regions x.region.0 s) held) (sym is)
        (keeps_leased regions x.region.0 r s lease_there (at_index regions x.region.0 r lease_there v) held leased k x refl recv (subst (λ fs. IsStrictlySortedBy nat_cmp (keys_of fs)) is order) lacks lease_allowed.0 lease_allowed.2 may_lift.1 m)

    pub lifted_view : (s : Region) → IsLifted x r s → Updated nat_cmp leased es recv (Some x) → registry_of (slice_set regions x.region.0 s) held es ≡ with_lease now recv x
    lifted_view s m u =
        let at = at_index regions x.region.0 r lease_there v in
        ap (λ a. registry a (map_of held) (map_of es))
        (areas_laid regions x.region.0 s x.at (replicate x.len None) lease_there (λ d. ap (λ (t : Tiles). record { block = t.block; cells = t.cells }) m.home ∙ ap (λ (q : Region). record { block = q.home.block; cells = laid x.at (replicate x.len None) q.home.cells }) (sym (at d))))
        ∙ ap (registry (laid_in x.region.0 x.at (replicate x.len None) (each area_of regions)) (map_of held)) (map_with by_number leased es recv x u)
        ∙ ap (λ n. with_lease n recv x) view

    -- the part is that of the lease
    pub lifted_lease : (s : Region) → IsLifted x r s → IsStrictlySortedBy nat_cmp (keys_of es) → Updated nat_cmp leased es recv (Some x) → (part : Piece) → IsLiftedPart x r part → (new : Registry) → registry_of (slice_set regions x.region.0 s) held es ≡ new → IsLeaseOf new recv part
    lifted_lease s m order u part p new seen =
        let lt : x.region.0 < length (slice_set regions x.region.0 s) = let size = length-set regions x.region.0 s in let below = lease_there in omega arith in
        let here : s ≡ get_or (slice_set regions x.region.0 s) x.region.0 s = sym (get_or-set_same regions x.region.0 s s lease_there) in
        let kept = lifted_keeps s m order in
        let t : Tiled x.region.0 (values_of es) s.home = subst (λ (q : Region). Tiled x.region.0 (values_of es) q.home) (sym here) (kept.tiled x.region.0 s lt) in
        let place : IsPlaced x s.home part = subst (λ (h : Tiles). IsPlaced x h part) (sym m.home) (record { len = p.0.len; placed = p.0.placed; apart = p.0.apart }) in
        let there : finite.get (map_of {R = nat_cmp} es) recv ≡ Some x = get_is_lookup by_number es recv ∙ (u recv ∙ ap (λ b. cond (is_eq b) (Some x) (lookup (is_at (nat_cmp recv)) leased)) (tied_itself nat_cmp_total recv)) in
        subst (λ n. IsLeaseOf n recv part) seen (x, there, part_of (slice_set regions x.region.0 s) held es x s part lt here t.whole place)

    -- where memory was wanting, the lease is taken out again
    module _ (s : Region) (same : s ≡ r) (fs : Entries ℕ) (removed : fs ≡ remove_entry (is_at (nat_cmp recv)) es) where
      pub back_entries : fs ≡ leased
      back_entries = removed ∙ (ap (remove_entry (is_at (nat_cmp recv))) is ∙ undone by_number leased recv x lacks)

      pub back_keeps : Keeps (slice_set regions x.region.0 s) held fs
      back_keeps =
          let e = ap (λ (q : Region). q.home) same in
          subst (Keeps (slice_set regions x.region.0 s) held) (sym back_entries)
          (keeps_reserved regions x.region.0 r s lease_there (at_index regions x.region.0 r lease_there v) held leased k e (ap (λ (q : Region). q.starts.items) same) (ap (λ (q : Region). q.ends.items) same))

      pub back_view : registry_of (slice_set regions x.region.0 s) held fs ≡ now
      back_view =
          ap (λ a. registry a (map_of held) (map_of fs)) (areas_same regions x.region.0 r s lease_there (at_index regions x.region.0 r lease_there v) (ap (λ (q : Region). q.home) same))
          ∙ ap (λ gs. registry_of regions held gs) back_entries ∙ view

module _ (regions : List Region) (held : Entries HoldKey) (leased : Entries ℕ) (k : Keeps regions held leased) (now : Registry) (view : registry_of regions held leased ≡ now) (recv : ℕ) (part : Piece) (lease : IsLeaseOf now recv part) where
  -- the receive has a lease
  pub its_range : lookup (is_at (nat_cmp recv)) leased ≡ Some lease.0
  its_range = sym (get_is_lookup by_number leased recv) ∙ (ap (λ (n : Registry). finite.get n.leased recv) view ∙ lease.1)

  module _ (x : Span) (found : lookup (is_at (nat_cmp recv)) leased ≡ Some x) where
    lies : Lies regions x
    lies = found_lies by_number regions leased recv x k.leased_lie found

    pub leased_there : x.region.0 < length regions
    leased_there = lies.0

    same_range : lease.0 ≡ x
    same_range = let e = sym its_range ∙ found in some_same e
      where
        some_same : {a b : Span} → Some a ≡ Some b → a ≡ b
        some_same e = cc

    its_part : IsPartOf (registry_of regions held leased) x part
    its_part = subst (λ n. IsPartOf n x part) (sym view) (subst (λ y. IsPartOf now y part) same_range lease.2)

    module _ (r : Region) (v : r ≡ get_or regions x.region.0 r) where
      tiled_out : Tiled x.region.0 (values_of leased) r.home
      tiled_out = subst (λ (q : Region). Tiled x.region.0 (values_of leased) q.home) (sym v) (k.tiled x.region.0 r leased_there)

      fits_out : x.at + x.len ≤ length r.home.cells
      fits_out = subst (λ (q : Region). x.at + x.len ≤ length q.home.cells) (sym v) (lies.1 r)

      pub is_out : IsOut x r part
      is_out =
          let sums : IsWith x (values_of (remove_entry (is_at (nat_cmp recv)) leased)) (values_of leased) = λ f. sym (sum_without by_number leased recv x found f) in
          let out = leased_out x (values_of (remove_entry (is_at (nat_cmp recv)) leased)) (values_of leased) sums r.home fits_out tiled_out in
          record {
            start = tiled_out.start;
            placed = placed_of regions held leased x r part leased_there v tiled_out.whole its_part;
            counted = out.1;
            cells = out.0;
          }

      module _ (s : Region) (m : IsPutBack x part.bytes r s) (es : Entries ℕ) (is : es ≡ remove_entry (is_at (nat_cmp recv)) leased) where
        pub back_home : IsStrictlySortedBy nat_cmp (keys_of es) → Keeps (slice_set regions x.region.0 s) held es
        back_home order =
            subst (Keeps (slice_set regions x.region.0 s) held) (sym is)
            (keeps_returned regions x.region.0 r s leased_there (at_index regions x.region.0 r leased_there v) held leased k x refl recv (subst (λ fs. IsStrictlySortedBy nat_cmp (keys_of fs)) is order) found fits_out part.bytes its_part.len m)

        pub back_home_view : Updated nat_cmp leased es recv None → registry_of (slice_set regions x.region.0 s) held es ≡ after_lease_back now recv part
        back_home_view u =
            let at = at_index regions x.region.0 r leased_there v in
            let had : finite.get now.leased recv ≡ Some x = ap (λ (n : Registry). finite.get n.leased recv) (sym view) ∙ (get_is_lookup by_number leased recv ∙ found) in
            ap (λ a. registry a (map_of held) (map_of es))
            (areas_laid regions x.region.0 s x.at (each Some part.bytes) leased_there (λ d. ap (λ (t : Tiles). record { block = t.block; cells = t.cells }) m.home ∙ ap (λ (q : Region). record { block = q.home.block; cells = laid x.at (each Some part.bytes) q.home.cells }) (sym (at d))))
            ∙ ap (registry (laid_in x.region.0 x.at (each Some part.bytes) (each area_of regions)) (map_of held)) (map_without by_number leased es recv u)
            ∙ ap (λ (n : Registry). registry (laid_in x.region.0 x.at (each Some part.bytes) n.areas) n.held (finite.remove n.leased recv)) view
            ∙ ap (λ o. returned o now recv part.bytes) (sym had)

-- what a range that may be read has
module _ (regions : List Region) (held : Entries HoldKey) (leased : Entries ℕ) (k : Keeps regions held leased) (now : Registry) (view : registry_of regions held leased ≡ now) (x : Span) (allowed : hold_refusal now x ≡ None) where
  readable : Lies regions x × (list_any (meets x) (values_of leased) ≡ false)
  readable = may_hold x regions held leased k (ap (λ r. hold_refusal r x) view ∙ allowed)

  pub read_there : x.region.0 < length regions
  read_there = readable.0.0

  module _ (r : Region) (v : r ≡ get_or regions x.region.0 r) where
    pub read_home : MayLift x r
    read_home = at_home x regions held leased k r readable.0 (sym v) readable.1

    pub read_bytes : home_bytes x.at x.len r.home.cells ≡ bytes_at now x
    read_bytes = ap (home_bytes x.at x.len) (sym (cells_are regions x.region.0 r read_there v)) ∙ ap (λ n. bytes_at n x) view
