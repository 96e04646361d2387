-- A range that goes out and comes back with its bytes.
use Rattle.std.proofs.Common.{◌≡◌, refl, sym, ap, subst, ◌∙◌, ℕ, zero, suc, ◌+◌, inl, inr, List, [], ◌∷◌, length, get_or, map as each, replicate, Option, Some, None, arith}
use Rattle.std.specs.Prelude.{slice_get, ◌||◌}
use Rattle.std.specs.FinMap as finite
use Rattle.std.specs.Cmp.{nat_cmp_total}
use Rattle.std.proofs.lemmas.Bool.{cases_eq, or_parts}
use Rattle.std.proofs.lemmas.List.{length-map, length-replicate}
use Rattle.rdm_mr.specs.Tiles.{AreHome, AreBytes}
use Rattle.rdm_mr.proofs.Undone.{laid_over, laid_same}
use Rattle.rdm_num.specs.declared.parts.Span.{Span}
use Rattle.rdm_regions.specs.Ranges.{LeasedRanges, range, meets_one, meets}
use Rattle.rdm_regions.specs.Registry.{Registry, Area, lease_refusal, laid_in, cells_at, with_lease, returned}
use Rattle.rdm_regions.specs.Survival.{IsSound, BackUndoesLease}
use Rattle.rdm_regions.proofs.Apart.{none_each, each_none}
use Rattle.rdm_regions.proofs.Entries.{by_number}
use Rattle.rdm_regions.proofs.HomeBytes.{bytes_are}
use Rattle.rdm_regions.proofs.Places.{home_from}
use Rattle.rdm_regions.proofs.Several.{get_put, get_gone, get_beside, get_without}
use Rattle.rdm_regions.proofs.Sound.{meets_within}
use Rattle.rdm_regions.proofs.Survive.{not_refused, cells_of_area}

-- a lease under a new number that is taken out again
unleased : (m : LeasedRanges) (n : ℕ) (x : Span) → finite.get m n ≡ None → finite.remove (finite.insert m n x) n ≡ m
unleased m n x none =
    finite.same_map nat_cmp_total finite.nat_cmp-IsAntisymmetric _ _ (λ q. elim (cases_eq q n) [
      | inl e ↦ ap (finite.get (finite.remove (finite.insert m n x) n)) e ∙ get_gone by_number (finite.insert m n x) n ∙ sym (ap (finite.get m) e ∙ none)
      | inr ne ↦ get_without by_number (finite.insert m n x) n q ne ∙ get_beside by_number m n q x ne
    ])

-- bytes that come back to where they lay
areas_back : (areas : List Area) (i at len : ℕ) (bytes : List ℕ) → length bytes ≡ len → AreBytes at bytes (cells_at i areas) → laid_in i at (each Some bytes) (laid_in i at (replicate len None) areas) ≡ areas
areas_back [] i at len bytes long lie = refl
areas_back (a ∷ areas) zero at len bytes long lie =
    let gone : length (replicate {A = Option ℕ} len None) ≡ len = length-replicate len None in
    let some = length-map {B = Option ℕ} bytes Some in
    ap (λ cells. record a { cells = cells } ∷ areas)
    (laid_over at (each Some bytes) (replicate len None) a.cells (omega (arith, gone, some, long, lie.0)) (some ∙ long ∙ sym gone) ∙ laid_same at (each Some bytes) a.cells lie)
areas_back (a ∷ areas) (suc i) at len bytes long lie = ap (λ rest. a ∷ rest) (areas_back areas i at len bytes long lie)

-- a range that may be leased is at home
is_home : (r : Registry) (x : Span) → IsSound r → lease_refusal r x ≡ None → (a : Area) × (slice_get r.areas x.region.0 ≡ Some a) × AreHome x.at x.len a.cells
is_home r x sound allowed =
    let free = not_refused (slice_get r.areas x.region.0) x (meets_one x r.leased || meets_one x r.held) allowed in
    let none = none_each (meets x) (finite.values r.leased) (or_parts (meets_one x r.leased) (meets_one x r.held) free.3).0 in (
      free.0,
      free.1,
      home_from x.at x.len free.0.cells free.2 (λ k lt.
          sound.away x.region.0 (x.at + k) free.0 free.1 (omega (arith, free.2))
          ∙ each_none (meets (range x.region.0 (x.at + k) 1)) (finite.values r.leased)
          (λ i d in_it. meets_within x (range x.region.0 (x.at + k) 1) (get_or (finite.values r.leased) i d) (refl, omega arith, omega (arith, lt)) (none i d in_it))),
    )

pub back_undoes_lease : BackUndoesLease
back_undoes_lease r n x part sound free allowed bytes =
    let h = is_home r x sound allowed in
    let cells = cells_of_area r.areas x.region.0 h.0 h.1 in
    let lie : AreBytes x.at h.2.0 (cells_at x.region.0 r.areas) = subst (AreBytes x.at h.2.0) (sym cells) h.2.2 in
    let same : part.bytes ≡ h.2.0 = bytes ∙ bytes_are x.at x.len h.2.0 (cells_at x.region.0 r.areas) h.2.1 lie in
    let areas =
    ap (λ bs. laid_in x.region.0 x.at (each Some bs) (laid_in x.region.0 x.at (replicate x.len None) r.areas)) same
    ∙ areas_back r.areas x.region.0 x.at x.len h.2.0 h.2.1 lie in
    let leased = unleased r.leased n x free in
    ap (λ o. returned o (with_lease r n x) n part.bytes) (get_put by_number r.leased n x) ∙ (λ i. record { areas = areas i; held = r.held; leased = leased i })
