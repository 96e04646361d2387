-- The fields of `Regions`, once a range is held or leased, or is so no more.
use Rattle.std.proofs.Common.{◌≡◌, refl, sym, ap, subst, ◌∙◌, ℕ, zero, suc, ◌+◌, ◌<◌, ◌≤◌, Bool, true, false, List, [], ◌∷◌, length, get_or, map as each, Option, Some, None, inl, inr, arith}
use Rattle.std.specs.Prelude.{slice_set, slice_get, ◌||◌}
use Rattle.std.specs.List.{All, sum_by, list_any}
use Rattle.std.specs.List.Sorted.{IsNonDecreasing, IsStrictlySortedBy}
use Rattle.std.specs.Map.{keys_of, values_of, lookup, remove_entry}
use Rattle.std.specs.BTreeMap.{is_at, insert_entry}
use Rattle.std.specs.Ordering.{nat_cmp}
use Rattle.std.proofs.lemmas.Bool.{cases_eq, cases_lt, or_parts}
use Rattle.std.proofs.lemmas.List.{length-set, get_or-set_same, get_or-set_other, get_or_default, map-set, set-get_or, get_or-map}
use Rattle.std.proofs.lemmas.Option.{slice_get_cases}
use Rattle.std.proofs.lemmas.Map.Views.{All-values-insert_entry}
use Rattle.rdm_mr.specs.Tiles.{Tiles, laid, AreHome}
use Rattle.rdm_num.specs.declared.parts.Span.{Span}
use Rattle.rdm_regions.specs.declared.refused.RegionRefused.{RegionRefused}
use Rattle.rdm_regions.specs.declared.refused.RegionRefused.TheVariants.{NoRegion, Range}
use Rattle.rdm_regions.specs.declared.key.HoldKey.{HoldKey}
use Rattle.rdm_regions.specs.declared.region.Region.{Region}
use Rattle.rdm_regions.specs.Ranges.{meets, meets_one, key_cmp}
use Rattle.rdm_regions.specs.Registry.{refusal_in, hold_refusal, lease_refusal, laid_in}
use Rattle.rdm_regions.specs.Steps.{Marked, Unmarked, IsLifted, IsPutBack}
use Rattle.rdm_regions.specs.Tallies.{area_of, busy_if, Lies, Marks, Tiled, Keeps}
use Rattle.rdm_regions.proofs.Entries.{Entries, by_number, by_key, map_of, values_are, sum_with, sum_without, All_without}
use Rattle.rdm_regions.proofs.Apart.{apart_with, apart_without}
use Rattle.rdm_regions.proofs.Busy.{free_home}
use Rattle.rdm_regions.proofs.Refusals.{registry_of, no_region, passes, is_region_of}
use Rattle.rdm_regions.proofs.RegionChanges.{IsWith, marks_with_other, marks_without_other, tiled_with_other, tiled_without_other, marks_with, marks_without, tiled_with, tiled_without}

-- the element at a place, whatever stands for one past the end
pub at_index : (regions : List Region) (i : ℕ) (r : Region) → i < length regions → r ≡ get_or regions i r → (d : Region) → get_or regions i d ≡ r
at_index regions i r lt is d = get_or_default regions i d r lt ∙ sym is

-- each region with its number, once one is another
set_each : (P : ℕ → Region → Type 0) (regions : List Region) (i : ℕ) (s : Region) → i < length regions → ((k : ℕ) (d : Region) → k < length regions → (k ≡ i → ⊥) → P k (get_or regions k d)) → P i s → (k : ℕ) (d : Region) → k < length (slice_set regions i s)
    → P k (get_or (slice_set regions i s) k d)
set_each P regions i s at others here k d lt =
    let size = length-set regions i s in
    elim (cases_eq k i) [
      | inl e ↦ subst (λ j. P j (get_or (slice_set regions i s) j d)) (sym e) (subst (P i) (sym (get_or-set_same regions i s d at)) here)
      | inr ne ↦ subst (P k) (sym (get_or-set_other regions i k s d ne)) (others k d (omega arith) ne)
    ]

module _ (regions : List Region) (i : ℕ) (r s : Region) (lt : i < length regions) (is : (d : Region) → get_or regions i d ≡ r) where
  -- a range that lies in the regions
  pub lies_set : length s.home.cells ≡ length r.home.cells → (x : Span) → Lies regions x → Lies (slice_set regions i s) x
  lies_set size x h = (
    (let long = length-set regions i s in omega (arith, h.0)),
    λ d. elim (cases_eq x.region.0 i) [
      | inl e ↦
          let new : get_or (slice_set regions i s) x.region.0 d ≡ s = ap (λ j. get_or (slice_set regions i s) j d) e ∙ get_or-set_same regions i s d lt in
          let cells = ap (λ (q : Region). length q.home.cells) new in
          let old = ap (λ (q : Region). length q.home.cells) (ap (λ j. get_or regions j d) e ∙ is d) in
          omega (arith, h.1 d, cells, old, size)
      | inr ne ↦
          let cells = ap (λ (q : Region). length q.home.cells) (get_or-set_other regions i x.region.0 s d ne) in
          omega (arith, h.1 d, cells)
    ],
  )

  all_lie_set : length s.home.cells ≡ length r.home.cells → (xs : List Span) → All (Lies regions) xs → All (Lies (slice_set regions i s)) xs
  all_lie_set size xs all k d below = lies_set size (get_or xs k d) (all k d below)

  -- the areas, if the region is seen as before
  pub areas_same : s.home ≡ r.home → each area_of (slice_set regions i s) ≡ each area_of regions
  areas_same same =
      map-set area_of regions i s
      ∙ ap (λ (home : Tiles). slice_set (each area_of regions) i (record { block = home.block; cells = home.cells })) same
      ∙ ap (slice_set (each area_of regions) i) (sym (get_or-map area_of regions i r (area_of r) lt ∙ ap area_of (is r)))
      ∙ set-get_or (each area_of regions) i (area_of r)

  -- the same marks
  marks_same : (k : ℕ) (xs : List Span) → s.starts.items ≡ r.starts.items → s.ends.items ≡ r.ends.items → Marks k xs r → Marks k xs s
  marks_same k xs starts ends m = record {
    starts_rise = subst IsNonDecreasing (sym starts) m.starts_rise;
    ends_rise = subst IsNonDecreasing (sym ends) m.ends_rise;
    starts = λ f. ap (sum_by f) starts ∙ m.starts f;
    ends = λ f. ap (sum_by f) ends ∙ m.ends f;
  }

  module _ (held : Entries HoldKey) (leased : Entries ℕ) (k : Keeps regions held leased) where
    marks_here : Marks i (values_of held) r
    marks_here = subst (Marks i (values_of held)) (is r) (k.marks i r lt)

    tiled_here : Tiled i (values_of leased) r.home
    tiled_here = subst (λ (q : Region). Tiled i (values_of leased) q.home) (is r) (k.tiled i r lt)

    -- room for marks changes nothing
    pub keeps_reserved : s.home ≡ r.home → s.starts.items ≡ r.starts.items → s.ends.items ≡ r.ends.items → Keeps (slice_set regions i s) held leased
    keeps_reserved home starts ends =
        let size = ap (λ (t : Tiles). length t.cells) home in
        record {
          held_order = k.held_order;
          leased_order = k.leased_order;
          held_lie = all_lie_set size (values_of held) k.held_lie;
          leased_lie = all_lie_set size (values_of leased) k.leased_lie;
          apart = k.apart;
          marks = set_each (λ n q. Marks n (values_of held) q) regions i s lt (λ n d below ne. k.marks n d below) (marks_same i (values_of held) starts ends marks_here);
          tiled = set_each (λ n q. Tiled n (values_of leased) q.home) regions i s lt (λ n d below ne. k.tiled n d below) (subst (Tiled i (values_of leased)) (sym home) tiled_here);
        }

    module _ (x : Span) (here : x.region.0 ≡ i) (key : HoldKey) where
      -- a range that is held
      pub keeps_held : IsStrictlySortedBy key_cmp (keys_of (insert_entry key_cmp held key x)) → lookup (is_at (key_cmp key)) held ≡ None → Lies regions x → list_any (meets x) (values_of leased) ≡ false → Marked x r s → Keeps (slice_set regions i s) (insert_entry key_cmp held key x) leased
      keeps_held order none lies free m =
          let size = ap (λ (t : Tiles). length t.cells) m.home in
          let sums = sum_with by_key held key x k.held_order none in
          let all = All-values-insert_entry key_cmp key x (Lies regions) held k.held_lie lies in
          record {
            held_order = order;
            leased_order = k.leased_order;
            held_lie = all_lie_set size (values_of (insert_entry key_cmp held key x)) all;
            leased_lie = all_lie_set size (values_of leased) k.leased_lie;
            apart = All-values-insert_entry key_cmp key x (λ y. list_any (meets y) (values_of leased) ≡ false) held k.apart free;
            marks = set_each (λ n q. Marks n (values_of (insert_entry key_cmp held key x)) q) regions i s lt (λ n d below ne. marks_with_other x (values_of held) (values_of (insert_entry key_cmp held key x)) sums n (get_or regions n d) (λ e. ne (e ∙ here)) (k.marks n d below))
                (subst (λ n. Marks n (values_of (insert_entry key_cmp held key x)) s) here (marks_with x (values_of held) (values_of (insert_entry key_cmp held key x)) sums r s m (subst (λ n. Marks n (values_of held) r) (sym here) marks_here)));
            tiled = set_each (λ n q. Tiled n (values_of leased) q.home) regions i s lt (λ n d below ne. k.tiled n d below) (subst (Tiled i (values_of leased)) (sym m.home) tiled_here);
          }

      -- a range that is held no more
      pub keeps_dropped : IsStrictlySortedBy key_cmp (keys_of (remove_entry (is_at (key_cmp key)) held)) → lookup (is_at (key_cmp key)) held ≡ Some x → Unmarked x r s → Keeps (slice_set regions i s) (remove_entry (is_at (key_cmp key)) held) leased
      keeps_dropped order there m =
          let left = values_of (remove_entry (is_at (key_cmp key)) held) in
          let size = ap (λ (t : Tiles). length t.cells) m.0 in
          let sums : IsWith x left (values_of held) = λ f. sym (sum_without by_key held key x there f) in
          record {
            held_order = order;
            leased_order = k.leased_order;
            held_lie = all_lie_set size left (All_without (Lies regions) (is_at (key_cmp key)) held k.held_lie);
            leased_lie = all_lie_set size (values_of leased) k.leased_lie;
            apart = All_without (λ y. list_any (meets y) (values_of leased) ≡ false) (is_at (key_cmp key)) held k.apart;
            marks = set_each (λ n q. Marks n left q) regions i s lt (λ n d below ne. marks_without_other x left (values_of held) sums n (get_or regions n d) (λ e. ne (e ∙ here)) (k.marks n d below))
                (subst (λ n. Marks n left s) here (marks_without x left (values_of held) sums r s m (subst (λ n. Marks n (values_of held) r) (sym here) marks_here)));
            tiled = set_each (λ n q. Tiled n (values_of leased) q.home) regions i s lt (λ n d below ne. k.tiled n d below) (subst (Tiled i (values_of leased)) (sym m.0) tiled_here);
          }

    module _ (x : Span) (here : x.region.0 ≡ i) (key : ℕ) where
      -- a range that is leased
      pub keeps_leased : IsStrictlySortedBy nat_cmp (keys_of (insert_entry nat_cmp leased key x)) → lookup (is_at (nat_cmp key)) leased ≡ None → Lies regions x → list_any (meets x) (values_of held) ≡ false → AreHome x.at x.len r.home.cells → IsLifted x r s
          → Keeps (slice_set regions i s) held (insert_entry nat_cmp leased key x)
      keeps_leased order none lies clear home m =
          let more = values_of (insert_entry nat_cmp leased key x) in
          let fits : x.at + x.len ≤ length r.home.cells = subst (λ (q : Region). x.at + x.len ≤ length q.home.cells) (ap (λ n. get_or regions n r) here ∙ is r) (lies.1 r) in
          let sums = sum_with by_number leased key x k.leased_order none in
          let new : Tiled x.region.0 more s.home = subst (Tiled x.region.0 more) (sym m.home) (tiled_with x (values_of leased) more sums r.home fits home (subst (λ n. Tiled n (values_of leased) r.home) (sym here) tiled_here)) in
          let size : length s.home.cells ≡ length r.home.cells = sym new.whole ∙ (ap (λ (t : Tiles). t.whole) m.home ∙ tiled_here.whole) in
          record {
            held_order = k.held_order;
            leased_order = order;
            held_lie = all_lie_set size (values_of held) k.held_lie;
            leased_lie = all_lie_set size more (All-values-insert_entry nat_cmp key x (Lies regions) leased k.leased_lie lies);
            apart = apart_with key x (values_of held) leased k.apart clear;
            marks = set_each (λ n q. Marks n (values_of held) q) regions i s lt (λ n d below ne. k.marks n d below) (marks_same i (values_of held) (ap (λ v. v.items) m.starts) (ap (λ v. v.items) m.ends) marks_here);
            tiled = set_each (λ n q. Tiled n more q.home) regions i s lt (λ n d below ne. tiled_with_other x (values_of leased) more sums n ((get_or regions n d).home) (λ e. ne (e ∙ here)) (k.tiled n d below)) (subst (λ n. Tiled n more s.home) here new);
          }

      -- a range that is leased no more
      pub keeps_returned : IsStrictlySortedBy nat_cmp (keys_of (remove_entry (is_at (nat_cmp key)) leased)) → lookup (is_at (nat_cmp key)) leased ≡ Some x → x.at + x.len ≤ length r.home.cells → (bytes : List ℕ) → length bytes ≡ x.len → IsPutBack x bytes r s
          → Keeps (slice_set regions i s) held (remove_entry (is_at (nat_cmp key)) leased)
      keeps_returned order there fits bytes len m =
          let left = values_of (remove_entry (is_at (nat_cmp key)) leased) in
          let sums : IsWith x left (values_of leased) = λ f. sym (sum_without by_number leased key x there f) in
          let new : Tiled x.region.0 left s.home = subst (Tiled x.region.0 left) (sym m.home) (tiled_without x left (values_of leased) sums r.home bytes len fits (subst (λ n. Tiled n (values_of leased) r.home) (sym here) tiled_here)) in
          let size : length s.home.cells ≡ length r.home.cells = sym new.whole ∙ (ap (λ (t : Tiles). t.whole) m.home ∙ tiled_here.whole) in
          record {
            held_order = k.held_order;
            leased_order = order;
            held_lie = all_lie_set size (values_of held) k.held_lie;
            leased_lie = all_lie_set size left (All_without (Lies regions) (is_at (nat_cmp key)) leased k.leased_lie);
            apart = apart_without (is_at (nat_cmp key)) (values_of held) leased k.apart;
            marks = set_each (λ n q. Marks n (values_of held) q) regions i s lt (λ n d below ne. k.marks n d below) (marks_same i (values_of held) (ap (λ v. v.items) m.starts) (ap (λ v. v.items) m.ends) marks_here);
            tiled = set_each (λ n q. Tiled n left q.home) regions i s lt (λ n d below ne. tiled_without_other x left (values_of leased) sums n ((get_or regions n d).home) (λ e. ne (e ∙ here)) (k.tiled n d below)) (subst (λ n. Tiled n left s.home) here new);
          }

-- the areas, with other cells in one region
pub areas_laid : (regions : List Region) (i : ℕ) (s : Region) (at : ℕ) (xs : List (Option ℕ)) → i < length regions → ((d : Region) → area_of s ≡ record { block = (get_or regions i d).home.block; cells = laid at xs ((get_or regions i d).home.cells) })
    → each area_of (slice_set regions i s) ≡ laid_in i at xs (each area_of regions)
areas_laid [] i s at xs lt is = absurd (omega arith)
areas_laid (q ∷ qs) zero s at xs lt is = ap (λ a. a ∷ each area_of qs) (is q)
areas_laid (q ∷ qs) (suc i) s at xs lt is = ap (λ l. area_of q ∷ l) (areas_laid qs i s at xs (omega arith) is)

-- a range that is not refused lies in its region, and overlaps nothing that it must not
pub not_refused : (x : Span) (regions : List Region) (busy : Bool) → refusal_in (slice_get (each area_of regions) x.region.0) x busy ≡ None → Lies regions x × (busy ≡ false)
not_refused x regions busy none =
    elim (slice_get_cases regions x.region.0).1 [
      | inr past ↦ absurd (some_none NoRegion (sym (no_region x regions past.0 busy) ∙ none))
      | inl there ↦
          let r = there.0 in
          elim (cases_lt (length r.home.cells) (x.at + x.len)) [
            | inl over ↦ absurd (some_none Range (sym (passes x regions r there.1 there.3 over busy) ∙ none))
            | inr fits ↦
                let is = at_index regions x.region.0 r there.1 (sym there.3) in (
                  (there.1, λ d. subst (λ (q : Region). x.at + x.len ≤ length q.home.cells) (sym (is d)) fits),
                  not_busy busy (sym ((is_region_of x regions r there.1 is fits).refusal busy) ∙ none),
                )
          ]
    ]
  where
    some_none : (why : RegionRefused) → Some why ≡ None → ⊥
    some_none why e = cc

    not_busy : (b : Bool) → busy_if b ≡ None → b ≡ false
    not_busy true e = cc
    not_busy false e = refl

module _ (x : Span) (regions : List Region) (held : Entries HoldKey) (leased : Entries ℕ) (k : Keeps regions held leased) where
  -- a range that may be held or read lies in its region and is at home
  pub may_hold : hold_refusal (registry_of regions held leased) x ≡ None → Lies regions x × (list_any (meets x) (values_of leased) ≡ false)
  may_hold none =
      let h = not_refused x regions (meets_one x (map_of {R = nat_cmp} leased)) none in
      (h.0, ap (list_any (meets x)) (sym (values_are by_number leased k.leased_order)) ∙ h.1)

  -- and so does one that may be leased
  pub may_lease : lease_refusal (registry_of regions held leased) x ≡ None → Lies regions x × (list_any (meets x) (values_of leased) ≡ false) × (list_any (meets x) (values_of held) ≡ false)
  may_lease none =
      let h = not_refused x regions (meets_one x (map_of {R = nat_cmp} leased) || meets_one x (map_of {R = key_cmp} held)) none in
      let both = or_parts (meets_one x (map_of {R = nat_cmp} leased)) (meets_one x (map_of {R = key_cmp} held)) h.1 in
      (h.0, ap (list_any (meets x)) (sym (values_are by_number leased k.leased_order)) ∙ both.0, ap (list_any (meets x)) (sym (values_are by_key held k.held_order)) ∙ both.1)

  -- it is at home
  pub at_home : (r : Region) → Lies regions x → get_or regions x.region.0 r ≡ r → list_any (meets x) (values_of leased) ≡ false → (x.at + x.len ≤ length r.home.cells) × AreHome x.at x.len r.home.cells × (r.home.start ≡ 0)
  at_home r lies is free =
      let t : Tiled x.region.0 (values_of leased) r.home = subst (λ (q : Region). Tiled x.region.0 (values_of leased) q.home) is (k.tiled x.region.0 r lies.0) in
      let fits : x.at + x.len ≤ length r.home.cells = subst (λ (q : Region). x.at + x.len ≤ length q.home.cells) is (lies.1 r) in
      (fits, free_home x (values_of leased) r.home t fits free, t.start)
