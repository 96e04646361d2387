-- What is true of the regions at all times, as a clause sees them.
use Rattle.std.proofs.Common.{◌≡◌, ◌↔◌, refl, sym, ap, subst, ◌∙◌, ℕ, ◌+◌, ◌<◌, ◌≤◌, Bool, true, false, cond, List, length, get_or, map as each, Option, Some, None, inl, inr, arith}
use Rattle.std.specs.Prelude.{is_none, slice_get, option_map}
use Rattle.std.specs.List.{list_any}
use Rattle.std.specs.Map.{values_of, lookup}
use Rattle.std.specs.BTreeMap.{is_at}
use Rattle.std.specs.Ordering.{nat_cmp}
use Rattle.std.specs.FinMap as finite
use Rattle.std.proofs.lemmas.Bool.{cases_lt}
use Rattle.std.proofs.lemmas.Bool.Decides.{nat_tests}
use Rattle.std.proofs.lemmas.Option.{slice_get_cases, slice_get-map, slice_get-get_or, slice_get_past}
use Rattle.rdm_mr.specs.Tiles.{AreHome}
use Rattle.rdm_num.specs.Pieces.{overlaps}
use Rattle.rdm_num.specs.declared.parts.Span.{Span}
use Rattle.rdm_regions.specs.declared.key.HoldKey.{HoldKey}
use Rattle.rdm_regions.specs.declared.region.Region.{Region}
use Rattle.rdm_regions.specs.Ranges.{range, hold_key, key_cmp, meets, meets_one}
use Rattle.rdm_regions.specs.Registry.{Area, refusal_in}
use Rattle.rdm_regions.specs.Weights.{has}
use Rattle.rdm_regions.specs.Tallies.{area_of, busy_if, Lies, Tiled, Keeps}
use Rattle.rdm_regions.specs.Survival.{LiesIn, IsWithin, IsSound}
use Rattle.rdm_regions.proofs.Apart.{found_has, two_weigh, none_each, each_none}
use Rattle.rdm_regions.proofs.Changes.{at_index}
use Rattle.rdm_regions.proofs.Entries.{Entries, by_number, by_key, map_of, get_is_lookup, values_are}
use Rattle.rdm_regions.proofs.Meets.{meets_shares, has_one}
use Rattle.rdm_regions.proofs.Places.{out_at, home_at, home_from}
use Rattle.rdm_regions.proofs.Refusals.{registry_of, is_region_of, meets_leased}

module _ (regions : List Region) where
  -- a region that a clause sees is one that is kept
  pub area_is : (i : ℕ) (area : Area) → slice_get (each area_of regions) i ≡ Some area → (r : Region) × (i < length regions) × (r ≡ get_or regions i r) × (area_of r ≡ area)
  area_is i area is =
      elim (slice_get_cases regions i).1 [
        | inr past ↦ absurd (none_some area (sym (slice_get-map area_of regions i ∙ ap (option_map area_of) (slice_get_past regions i past.0)) ∙ is))
        | inl there ↦
            (there.0, there.1, sym there.3, some_same (sym (slice_get-map area_of regions i ∙ ap (option_map area_of) (slice_get-get_or regions i there.0 there.1 ∙ ap Some there.3)) ∙ is))
      ]
    where
      none_some : (a : Area) → None ≡ Some a → ⊥
      none_some a e = cc

      some_same : {a b : Area} → Some a ≡ Some b → a ≡ b
      some_same e = cc

  pub lies_in : (held : Entries HoldKey) (leased : Entries ℕ) (x : Span) → Lies regions x → LiesIn (registry_of regions held leased) x
  lies_in held leased x lies =
      elim (slice_get_cases regions x.region.0).1 [
        | inr past ↦ absurd (let le = past.0 in omega (arith, lies.0, le))
        | inl there ↦ (
          area_of there.0,
          slice_get-map area_of regions x.region.0 ∙ ap (option_map area_of) (slice_get-get_or regions x.region.0 there.0 there.1 ∙ ap Some there.3),
          subst (λ (q : Region). x.at + x.len ≤ length q.home.cells) there.3 (lies.1 there.0),
        )
      ]

-- a part of a range meets what the range meets
pub meets_within : (x y z : Span) → IsWithin y x → meets x z ≡ false → meets y z ≡ false
unfolding meets overlaps
meets_within x y z (same, low, high) h = grind (arith, nat_tests)

-- a range that lies in its region, and overlaps nothing that it must not, is not refused
not_refused_is : (regions : List Region) (x : Span) → x.region.0 < length regions → ((d : Region) → x.at + x.len ≤ length ((get_or regions x.region.0 d).home.cells)) → (busy : Bool) → busy ≡ false → refusal_in (slice_get (each area_of regions) x.region.0) x busy ≡ None
not_refused_is regions x lt fits busy free =
    elim (slice_get_cases regions x.region.0).1 [
      | inr past ↦ absurd (let le = past.0 in omega (arith, lt, le))
      | inl there ↦
          let r = there.0 in
          let o = is_region_of x regions r there.1 (at_index regions x.region.0 r there.1 (sym there.3)) (subst (λ (q : Region). x.at + x.len ≤ length q.home.cells) there.3 (fits r)) in
          o.refusal busy ∙ ap busy_if free
    ]

module _ (regions : List Region) (held : Entries HoldKey) (leased : Entries ℕ) (k : Keeps regions held leased) where
  found_held : (key : HoldKey) (x : Span) → finite.get (map_of {R = key_cmp} held) key ≡ Some x → lookup (is_at (key_cmp key)) held ≡ Some x
  found_held key x is = sym (get_is_lookup by_key held key) ∙ is

  found_leased : (recv : ℕ) (x : Span) → finite.get (map_of {R = nat_cmp} leased) recv ≡ Some x → lookup (is_at (nat_cmp recv)) leased ≡ Some x
  found_leased recv x is = sym (get_is_lookup by_number leased recv) ∙ is

  -- a place that two leases have would be out twice
  never_twice : (recv other : ℕ) (x y : Span) → (recv ≡ other → ⊥) → lookup (is_at (nat_cmp recv)) leased ≡ Some x → lookup (is_at (nat_cmp other)) leased ≡ Some y → meets x y ≡ true → ⊥
  never_twice recv other x y ne p q both =
      let s = meets_shares x y both in
      let lx = found_has by_number (Lies regions) leased recv x k.leased_lie p in
      let at_place : (place : ℕ) → x.at ≤ place → place < x.at + x.len → y.at ≤ place → place < y.at + y.len → ⊥ =
      λ place a b c d.
      elim (slice_get_cases regions x.region.0).1 [
        | inr past ↦ let le = past.0 in let lt = lx.0 in omega (arith, le, lt)
        | inl there ↦
            let r = there.0 in
            let t : Tiled x.region.0 (values_of leased) r.home = subst (λ (q : Region). Tiled x.region.0 (values_of leased) q.home) there.3 (k.tiled x.region.0 r lx.0) in
            let fits : x.at + x.len ≤ length r.home.cells = subst (λ (q : Region). x.at + x.len ≤ length q.home.cells) there.3 (lx.1 r) in
            let two = two_weigh (has x.region.0 place) leased recv other x y ne p q in
            let one = has_one x x.region.0 place refl a b in
            let more = has_one y x.region.0 place (sym s.region) c d in
            let le = at_most_one (out_at r.home.cells place) in
            omega (arith, two, one, more, t.places place (omega (arith, fits)), le)
      ] in
      elim (cases_lt x.at y.at) [
        | inl lt ↦ at_place y.at (omega arith) s.above (omega arith) (omega (arith, s.right))
        | inr le ↦ at_place x.at (omega arith) (omega (arith, s.left)) le s.below
      ]
    where
      at_most_one : (b : Bool) → cond {A = ℕ} b 1 0 ≤ 1
      at_most_one true = omega arith
      at_most_one false = omega arith

  unless : (b : Bool) → (b ≡ true → ⊥) → b ≡ false
  unless true h = absurd (h refl)
  unless false h = refl

  -- a place is out exactly where a range of that one place isn't at home
  out_or_home : (place : ℕ) (cells : List (Option ℕ)) → place < length cells → out_at cells place ≡ true ↔ (AreHome place 1 cells → ⊥)
  out_or_home place cells lt = (
    λ out home. true_false (sym out ∙ (ap (out_at cells) (sym here) ∙ home_at place 1 cells home 0 (omega arith))),
    λ away. by (out_at cells place) refl away,
  )
    where
      here : place + 0 ≡ place
      here = omega arith

      true_false : true ≡ false → ⊥
      true_false e = cc

      by : (b : Bool) → out_at cells place ≡ b → (AreHome place 1 cells → ⊥) → b ≡ true
      by true e away = refl
      by false e away = absurd (away (home_from place 1 cells (omega arith) (λ j below. let zero_is : place + j ≡ place = omega arith in ap (out_at cells) zero_is ∙ e)))

  pub is_sound : IsSound (registry_of regions held leased)
  is_sound = record {
    held_lie = λ send part x is. lies_in regions held leased x (found_has by_key (Lies regions) held (hold_key send part) x k.held_lie (found_held (hold_key send part) x is));
    leased_lie = λ recv x is. lies_in regions held leased x (found_has by_number (Lies regions) leased recv x k.leased_lie (found_leased recv x is));
    leases_apart = λ recv other x y ne p q. unless (meets x y) (never_twice recv other x y ne (found_leased recv x p) (found_leased other y q));
    holds_apart = λ send part recv x y p q.
        let none = found_has by_key (λ z. list_any (meets z) (values_of leased) ≡ false) held (hold_key send part) x k.apart (found_held (hold_key send part) x p) in
        found_has by_number (λ z. meets x z ≡ false) leased recv y (none_each (meets x) (values_of leased) none) (found_leased recv y q);
    held_is_read = λ send part x y is within.
        let found = found_held (hold_key send part) x is in
        let lx = found_has by_key (Lies regions) held (hold_key send part) x k.held_lie found in
        let none = found_has by_key (λ z. list_any (meets z) (values_of leased) ≡ false) held (hold_key send part) x k.apart found in
        let free : meets_one y (map_of {R = nat_cmp} leased) ≡ false = ap (list_any (meets y)) (values_are by_number leased k.leased_order) ∙ each_none (meets y) (values_of leased) (λ n d lt. meets_within x y (get_or (values_of leased) n d) within (none_each (meets x) (values_of leased) none n d lt)) in
        not_refused_is regions y (subst (λ n. n < length regions) (sym within.0) lx.0) (λ d. let fits = lx.1 d in let cells = ap (λ n. length ((get_or regions n d).home.cells)) within.0 in omega (arith, fits, cells, within.2)) (meets_one y (map_of {R = nat_cmp} leased)) free;
    away = λ region place area is lt.
        let a = area_is regions region area is in
        let r = a.0 in
        let fits : place + 1 ≤ length r.home.cells = let same = ap (λ (b : Area). length b.cells) a.3 in omega (arith, same, lt) in
        let o = is_region_of (range region place 1) regions r a.1 (at_index regions region r a.1 a.2) fits in
        ap (λ (b : Area). is_none (get_or b.cells place None)) (sym a.3)
        ∙ meets_leased (range region place 1) regions held leased k r o (out_at r.home.cells place) (out_or_home place r.home.cells (omega arith));
  }
