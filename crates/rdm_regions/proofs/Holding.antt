-- The regions while a send comes to hold a range, and while it drops it.
use Rattle.std.proofs.Common.{◌≡◌, refl, sym, ap, subst, ◌∙◌, ℕ, suc, ◌+◌, ◌<◌, ◌≤◌, true, false, cond, eqb, List, [], ◌∷◌, length, get_or, map as each, Option, Some, None, arith}
use Rattle.std.specs.Prelude.{slice_set, Result, Ok, Err, OnErr}
use Rattle.std.specs.List.{All, list_any}
use Rattle.std.specs.List.Sorted.{IsStrictlySortedBy}
use Rattle.std.specs.Map.{keys_of, values_of, lookup, remove_entry}
use Rattle.std.specs.BTreeMap.{is_at, insert_entry}
use Rattle.std.specs.declared.cmp.Ordering.{Ordering}
use Rattle.std.specs.FinMap as finite
use Rattle.std.proofs.lemmas.Bool.Decides.{nat_tests}
use Rattle.std.proofs.lemmas.List.{length-set, get_or-set_same}
use Rattle.rdm_mr.specs.Tiles.{Tiles}
use Rattle.rdm_num.specs.declared.parts.Span.{Span}
use Rattle.rdm_regions.specs.declared.key.HoldKey.{HoldKey}
use Rattle.rdm_regions.specs.declared.region.Region.{Region}
use Rattle.rdm_regions.specs.Ranges.{HeldRanges, LeasedRanges, key_cmp, meets}
use Rattle.rdm_regions.specs.Registry.{Registry, Area, hold_refusal, with_hold, without_hold}
use Rattle.rdm_regions.specs.Steps.{Marked, MayUnmark, Unmarked}
use Rattle.rdm_regions.specs.Weights.{at_start, at_end}
use Rattle.rdm_regions.specs.Tallies.{area_of, Lies, Marks, Keeps}
use Rattle.rdm_regions.proofs.Refusals.{registry_of}
use Rattle.rdm_regions.proofs.Entries.{Entries, Exact, by_key, map_of, get_is_lookup, map_with, map_without, sum_without}
use Rattle.rdm_regions.proofs.Changes.{at_index, may_hold, lies_set, keeps_reserved, keeps_held, keeps_dropped, areas_same}

abbrev pub registry : List Area → HeldRanges → LeasedRanges → Registry
registry areas held leased = record { areas = areas; held = held; leased = leased }

-- look-ups in a tree map, once a key has that value or none
abbrev pub Updated : {K : Type 0} (R : K → K → Ordering) → Entries K → Entries K → K → Option Span → Type 0
Updated {K} R es fs key v = (q : K) → lookup (is_at (R q)) fs ≡ cond (is_at (R key) q) v (lookup (is_at (R q)) es)

-- what a look-up finds lies in the regions
pub found_lies : {K : Type 0} {R : K → K → Ordering} (o : Exact R) (regions : List Region) (es : Entries K) (key : K) (x : Span) → All (Lies regions) (values_of es) → lookup (is_at (R key)) es ≡ Some x → Lies regions x
found_lies {R = R} o regions [] key x all is = cc
found_lies {R = R} o regions (e ∷ es) key x all is =
    elim (is_at (R key) e.0) as (λ b. cond b (Some e.1) (lookup (is_at (R key)) es) ≡ Some x → Lies regions x) [
      | true ↦ λ h. let same : e.1 ≡ x = cc in subst (Lies regions) same (all 0 e.1 (omega arith))
      | false ↦ λ h. found_lies {R = R} o regions es key x (λ k d lt. all (suc k) d (omega arith)) h
    ] is

-- what holds holds at an error
pub on_err : {A E P : Type 0} (result : Result A E) → P → OnErr result P
on_err (Ok a) p = tt
on_err (Err e) p = p

module _ (regions : List Region) (held : Entries HoldKey) (leased : Entries ℕ) (k : Keeps regions held leased) (now : Registry) (view : registry_of regions held leased ≡ now) (x : Span) (allowed : hold_refusal now x ≡ None) where
  free_of : Lies regions x × (list_any (meets x) (values_of leased) ≡ false)
  free_of = may_hold x regions held leased k (ap (λ r. hold_refusal r x) view ∙ allowed)

  lies : Lies regions x
  lies = free_of.0

  pub there : x.region.0 < length regions
  there = lies.0

  module _ (r : Region) (v : r ≡ get_or regions x.region.0 r) (s : Region) (same : (s.home ≡ r.home) × (s.starts.items ≡ r.starts.items) × (s.ends.items ≡ r.ends.items)) where
    pub reserved : Keeps (slice_set regions x.region.0 s) held leased
    reserved = keeps_reserved regions x.region.0 r s there (at_index regions x.region.0 r there v) held leased k same.0 same.1 same.2

    pub reserved_view : registry_of (slice_set regions x.region.0 s) held leased ≡ now
    reserved_view = ap (λ a. registry a (map_of held) (map_of leased)) (areas_same regions x.region.0 r s there (at_index regions x.region.0 r there v) same.0) ∙ view

    pub still_there : x.region.0 < length (slice_set regions x.region.0 s)
    still_there = let size = length-set regions x.region.0 s in let lt = there in omega arith

    module _ (q : Region) (w : q ≡ get_or (slice_set regions x.region.0 s) x.region.0 q) where
      pub is_reserved : q ≡ s
      is_reserved = w ∙ get_or-set_same regions x.region.0 s q there

      lies_now : Lies (slice_set regions x.region.0 s) x
      lies_now = lies_set regions x.region.0 r s there (at_index regions x.region.0 r there v) (ap (λ (t : Tiles). length t.cells) same.0) x lies

      pub fits : x.at + x.len ≤ length q.home.cells
      fits = subst (λ (p : Region). x.at + x.len ≤ length p.home.cells) (sym w) (lies_now.1 q)

      pub marks : Marks x.region.0 (values_of held) q
      marks = subst (Marks x.region.0 (values_of held)) (sym w) (reserved.marks x.region.0 q still_there)

      module _ (t : Region) (m : Marked x q t) (key : HoldKey) (free : finite.get now.held key ≡ None) (es : Entries HoldKey) (is : es ≡ insert_entry key_cmp held key x) (order : IsStrictlySortedBy key_cmp (keys_of es)) where
        pub holds : Keeps (slice_set (slice_set regions x.region.0 s) x.region.0 t) es leased
        holds =
            let none : lookup (is_at (key_cmp key)) held ≡ None = sym (get_is_lookup by_key held key) ∙ (ap (λ (n : Registry). finite.get n.held key) view ∙ free) in
            subst (λ fs. Keeps (slice_set (slice_set regions x.region.0 s) x.region.0 t) fs leased) (sym is)
            (keeps_held (slice_set regions x.region.0 s) x.region.0 q t still_there (at_index (slice_set regions x.region.0 s) x.region.0 q still_there w) held leased reserved x refl key (subst (λ fs. IsStrictlySortedBy key_cmp (keys_of fs)) is order) none lies_now free_of.1 m)

        pub holds_view : Updated key_cmp held es key (Some x) → registry_of (slice_set (slice_set regions x.region.0 s) x.region.0 t) es leased ≡ with_hold now key x
        holds_view u =
            ap (λ a. registry a (map_of es) (map_of leased)) (areas_same (slice_set regions x.region.0 s) x.region.0 q t still_there (at_index (slice_set regions x.region.0 s) x.region.0 q still_there w) m.home)
            ∙ ap (λ h. registry (each area_of (slice_set regions x.region.0 s)) h (map_of leased)) (map_with by_key held es key x u)
            ∙ ap (λ n. with_hold n key x) reserved_view

-- a number that a range counts
one_start : (x : Span) → 0 < x.len → at_start x.region.0 (λ n. cond (eqb x.at n) 1 0) x ≡ 1
one_start x some = grind (arith, nat_tests)

one_end : (x : Span) → 0 < x.len → at_end x.region.0 (λ n. cond (eqb (x.at + x.len) n) 1 0) x ≡ 1
one_end x some = grind (arith, nat_tests)

module _ (regions : List Region) (held : Entries HoldKey) (leased : Entries ℕ) (k : Keeps regions held leased) (now : Registry) (view : registry_of regions held leased ≡ now) (key : HoldKey) where
  -- where nothing was held under the key
  pub dropped_none : (es : Entries HoldKey) → Updated key_cmp held es key None → registry_of regions es leased ≡ without_hold now key
  dropped_none es u = ap (λ h. registry (each area_of regions) h (map_of leased)) (map_without by_key held es key u) ∙ ap (λ n. without_hold n key) view

  module _ (x : Span) (is_held : lookup (is_at (key_cmp key)) held ≡ Some x) where
    held_lies : Lies regions x
    held_lies = found_lies by_key regions held key x k.held_lie is_held

    pub held_there : x.region.0 < length regions
    held_there = held_lies.0

    module _ (r : Region) (v : r ≡ get_or regions x.region.0 r) where
      pub held_fits : x.at + x.len ≤ length r.home.cells
      held_fits = subst (λ (p : Region). x.at + x.len ≤ length p.home.cells) (sym v) (held_lies.1 r)

      pub held_marks : Marks x.region.0 (values_of held) r
      held_marks = subst (Marks x.region.0 (values_of held)) (sym v) (k.marks x.region.0 r held_there)

      pub may_unmark : MayUnmark x r
      may_unmark some =
          let starts = held_marks.starts (λ n. cond (eqb x.at n) 1 0) in
          let ends = held_marks.ends (λ n. cond (eqb (x.at + x.len) n) 1 0) in
          let a = sum_without by_key held key x is_held (at_start x.region.0 (λ n. cond (eqb x.at n) 1 0)) in
          let b = sum_without by_key held key x is_held (at_end x.region.0 (λ n. cond (eqb (x.at + x.len) n) 1 0)) in
          (omega (arith, starts, a, one_start x some), omega (arith, ends, b, one_end x some))

      module _ (s : Region) (m : Unmarked x r s) (es : Entries HoldKey) (is : es ≡ remove_entry (is_at (key_cmp key)) held) (order : IsStrictlySortedBy key_cmp (keys_of es)) where
        pub dropped : Keeps (slice_set regions x.region.0 s) es leased
        dropped =
            subst (λ fs. Keeps (slice_set regions x.region.0 s) fs leased) (sym is)
            (keeps_dropped regions x.region.0 r s held_there (at_index regions x.region.0 r held_there v) held leased k x refl key (subst (λ fs. IsStrictlySortedBy key_cmp (keys_of fs)) is order) is_held m)

        pub dropped_view : Updated key_cmp held es key None → registry_of (slice_set regions x.region.0 s) es leased ≡ without_hold now key
        dropped_view u =
            ap (λ a. registry a (map_of es) (map_of leased)) (areas_same regions x.region.0 r s held_there (at_index regions x.region.0 r held_there v) m.0)
            ∙ ap (λ h. registry (each area_of regions) h (map_of leased)) (map_without by_key held es key u)
            ∙ ap (λ n. without_hold n key) view
