-- What the holds and leases of others leave as it was.
use Rattle.std.proofs.Common.{◌≡◌, refl, sym, ap, subst, ◌∙◌, ℕ, zero, suc, ◌+◌, ◌<◌, ◌≤◌, ◌⊎◌, inl, inr, Bool, true, false, List, [], ◌∷◌, ◌++◌, length, get_or, take, drop, map as each, replicate, Option, Some, None, arith}
use Rattle.std.specs.Prelude.{slice_get, ◌||◌, nat_lt, if◌then◌else◌}
use Rattle.std.specs.List.{All, filter_map}
use Rattle.std.specs.declared.cmp.Ordering.{Ordering}
use Rattle.std.specs.FinMap as finite
use Rattle.std.proofs.lemmas.Bool.{cases_lt, cases_eq, or_parts, ltb-false}
use Rattle.std.proofs.lemmas.List.{length-map, length-replicate, length-take-le, length-drop, get_or-take, get_or-drop, ext_get_or}
use Rattle.rdm_mr.specs.Part.{Piece}
use Rattle.rdm_mr.specs.Tiles.{laid}
use Rattle.rdm_num.specs.declared.parts.Span.{Span}
use Rattle.rdm_regions.specs.declared.refused.RegionRefused.TheVariants.{Range, Busy}
use Rattle.rdm_regions.specs.Ranges.{LeasedRanges, hold_key, meets, meets_one}
use Rattle.rdm_regions.specs.Registry.{Registry, Area, IsPartOf, refusal_in, returned, with_lease, with_region, laid_in, cells_at}
use Rattle.rdm_regions.specs.Holds.{with_holds, without_holds}
use Rattle.rdm_regions.specs.Survival.{HoldStays, LeaseStays, StayRegistered, StayHeld, StayDropped, StayLeased, StayReturned}
use Rattle.rdm_regions.proofs.Apart.{found_has, none_each, meets_back}
use Rattle.rdm_regions.proofs.Entries.{Exact, by_number, by_key, find_is_lookup}
use Rattle.rdm_regions.proofs.Meets.{shares_meet}
use Rattle.rdm_regions.proofs.Several.{get_beside, get_without, other_key, another_send, get_all, get_but}
use Rattle.rdm_regions.proofs.Places.{length-laid, laid_before, laid_after}

-- the bytes of a range whose cells are as they were
same_bytes : (at len : ℕ) (cells others : List (Option ℕ)) → length others ≡ length cells → at + len ≤ length cells → ((k : ℕ) → at ≤ k → k < at + len → get_or others k None ≡ get_or cells k None) → take len (drop at others) ≡ take len (drop at cells)
same_bytes at len cells others size fits same =
    let long : length (take len (drop at cells)) ≡ len = length-take-le len (drop at cells) (omega (arith, length-drop at cells)) in
    let other : length (take len (drop at others)) ≡ len = length-take-le len (drop at others) (omega (arith, length-drop at others, size)) in
    ext_get_or None (take len (drop at others)) (take len (drop at cells)) (other ∙ sym long)
    (λ k lt. cell others k (omega (arith, other)) ∙ same (at + k) (omega arith) (omega (arith, other)) ∙ sym (cell cells k (omega (arith, other))))
  where
    cell : (cs : List (Option ℕ)) (k : ℕ) → k < len → get_or (take len (drop at cs)) k None ≡ get_or cs (at + k) None
    cell cs k lt = get_or-take len (drop at cs) k None lt ∙ get_or-drop at cs k None

-- the cells of a region, once another is registered
cells_push : (areas : List Area) (b : Area) (i : ℕ) (a : Area) → slice_get areas i ≡ Some a → cells_at i (areas ++ b ∷ []) ≡ cells_at i areas
cells_push [] b i a is = cc
cells_push (c ∷ areas) b zero a is = refl
cells_push (c ∷ areas) b (suc i) a is = cells_push areas b i a is

slice_push : (areas : List Area) (b : Area) (i : ℕ) (a : Area) → slice_get areas i ≡ Some a → slice_get (areas ++ b ∷ []) i ≡ Some a
slice_push [] b i a is = cc
slice_push (c ∷ areas) b zero a is = is
slice_push (c ∷ areas) b (suc i) a is = slice_push areas b i a is

pub cells_of_area : (areas : List Area) (i : ℕ) (a : Area) → slice_get areas i ≡ Some a → cells_at i areas ≡ a.cells
cells_of_area [] i a is = cc
cells_of_area (c ∷ areas) zero a is = let same : c ≡ a = some_same is in ap (λ (x : Area). x.cells) same
  where
    some_same : Some c ≡ Some a → c ≡ a
    some_same e = cc
cells_of_area (c ∷ areas) (suc i) a is = cells_of_area areas i a is

-- the cells of a region, once others are laid in one
cells_laid_other : (areas : List Area) (j i : ℕ) (at : ℕ) (xs : List (Option ℕ)) → (i ≡ j → ⊥) → cells_at i (laid_in j at xs areas) ≡ cells_at i areas
cells_laid_other [] zero i at xs ne = refl
cells_laid_other [] (suc j) i at xs ne = refl
cells_laid_other (a ∷ areas) zero zero at xs ne = absurd (ne refl)
cells_laid_other (a ∷ areas) zero (suc i) at xs ne = refl
cells_laid_other (a ∷ areas) (suc j) zero at xs ne = refl
cells_laid_other (a ∷ areas) (suc j) (suc i) at xs ne = cells_laid_other areas j i at xs (λ e. ne (ap suc e))

cells_laid_same : (areas : List Area) (j at : ℕ) (xs : List (Option ℕ)) (a : Area) → slice_get areas j ≡ Some a → cells_at j (laid_in j at xs areas) ≡ laid at xs (cells_at j areas)
cells_laid_same [] j at xs a is = cc
cells_laid_same (c ∷ areas) zero at xs a is = refl
cells_laid_same (c ∷ areas) (suc j) at xs a is = cells_laid_same areas j at xs a is

-- an area is of the same block and as long as before
abbrev pub Alike : List Area → ℕ → Area → Type 0
Alike areas i b = (a : Area) × (slice_get areas i ≡ Some a) × (a.block ≡ b.block) × (length a.cells ≡ length b.cells)

alike_laid : (areas : List Area) (j at : ℕ) (xs : List (Option ℕ)) → ((a : Area) → slice_get areas j ≡ Some a → at + length xs ≤ length a.cells) → (i : ℕ) (b : Area) → slice_get (laid_in j at xs areas) i ≡ Some b → Alike areas i b
alike_laid [] zero at xs fits i b is = cc
alike_laid [] (suc j) at xs fits i b is = cc
alike_laid (a ∷ areas) zero at xs fits zero b is =
    let same = some_same is in
    (a, refl, ap (λ (x : Area). x.block) same, sym (length-laid at xs a.cells (fits a refl)) ∙ ap (λ (x : Area). length x.cells) same)
  where
    some_same : {c d : Area} → Some c ≡ Some d → c ≡ d
    some_same e = cc
alike_laid (a ∷ areas) zero at xs fits (suc i) b is = (b, is, refl, refl)
alike_laid (a ∷ areas) (suc j) at xs fits zero b is = (b, is, refl, refl)
alike_laid (a ∷ areas) (suc j) at xs fits (suc i) b is = alike_laid areas j at xs fits i b is

-- so the part of a range is still that
part_stays : (r s : Registry) (x : Span) (part : Piece) → ((b : Area) → slice_get s.areas x.region.0 ≡ Some b → Alike r.areas x.region.0 b) → IsPartOf r x part → IsPartOf s x part
part_stays r s x part alike p = record {
  len = p.len;
  placed = λ some b is.
      let a = alike b is in
      let at = p.placed some a.0 a.1 in
      (at.0 ∙ a.2, at.1 ∙ a.3, at.2);
  apart = p.apart;
}

-- ranges of one region that share no place
beside : (x y : Span) → x.region.0 ≡ y.region.0 → meets x y ≡ false → (k : ℕ) → x.at ≤ k → k < x.at + x.len → (k < y.at) ⊎ (y.at + y.len ≤ k)
beside x y same none k low high =
    elim (cases_lt k y.at) [
      | inl lt ↦ inl lt
      | inr le ↦
          elim (cases_lt k (y.at + y.len)) [
            | inl below ↦ absurd (no (sym (shares_meet x y (record { region = same; left = omega arith; right = omega arith; below = omega arith; above = omega arith })) ∙ none))
            | inr past ↦ inr past
          ]
    ]
  where
    no : true ≡ false → ⊥
    no e = cc

-- the bytes of a range, once others are laid in a range that shares no place with it
bytes_beside : (areas : List Area) (x y : Span) (xs : List (Option ℕ)) (a b : Area) → length xs ≡ y.len → slice_get areas x.region.0 ≡ Some a → x.at + x.len ≤ length a.cells → slice_get areas y.region.0 ≡ Some b → y.at + y.len ≤ length b.cells → meets x y ≡ false
    → take x.len (drop x.at (cells_at x.region.0 (laid_in y.region.0 y.at xs areas))) ≡ take x.len (drop x.at (cells_at x.region.0 areas))
bytes_beside areas x y xs a b long is fits there fits' none =
    elim (cases_eq x.region.0 y.region.0) [
      | inr ne ↦ ap (λ cs. take x.len (drop x.at cs)) (cells_laid_other areas y.region.0 x.region.0 y.at xs ne)
      | inl e ↦
          let cells = cells_at y.region.0 areas in
          let size = ap length (cells_of_area areas x.region.0 a is) in
          let same = ap (λ n. length (cells_at n areas)) e in
          let size' = ap length (cells_of_area areas y.region.0 b there) in
          let le : y.at + length xs ≤ length cells = omega (arith, long, size', fits') in
          ap (λ n. take x.len (drop x.at (cells_at n (laid_in y.region.0 y.at xs areas)))) e
          ∙ ap (λ cs. take x.len (drop x.at cs)) (cells_laid_same areas y.region.0 y.at xs b there)
          ∙ same_bytes x.at x.len cells (laid y.at xs cells) (length-laid y.at xs cells le) (omega (arith, size, same, fits))
          (λ k low high. elim (beside x y e none k low high) [ inl lt ↦ laid_before y.at xs cells le k lt | inr past ↦ laid_after y.at xs cells le k (omega (arith, long)) ])
          ∙ ap (λ n. take x.len (drop x.at (cells_at n areas))) (sym e)
    ]

pub stay_registered : StayRegistered
stay_registered r block bytes sound = (
  λ send part x is. let in_it = sound.held_lie send part x is in (is, ap (λ cs. filter_map (λ (c : Option ℕ). c) (take x.len (drop x.at cs))) (cells_push r.areas (record { block = block; cells = each Some bytes }) x.region.0 in_it.0 in_it.1)),
  λ recv part lease.
      let x = lease.0 in
      let in_it = sound.leased_lie recv x lease.1 in
      let new : Area = record { block = block; cells = each Some bytes } in
      (x, lease.1, part_stays r (with_region r block bytes) x part (λ b is. let same = some_same (sym (slice_push r.areas new x.region.0 in_it.0 in_it.1) ∙ is) in (in_it.0, in_it.1, ap (λ (c : Area). c.block) same, ap (λ (c : Area). length c.cells) same)) lease.2),
)
  where
    some_same : {c d : Area} → Some c ≡ Some d → c ≡ d
    some_same e = cc

-- calls that leave the regions and the leases
lease_kept : (r s : Registry) → s.areas ≡ r.areas → s.leased ≡ r.leased → (recv : ℕ) → LeaseStays r s recv
lease_kept r s areas leased recv part lease =
    (lease.0, ap (λ (m : LeasedRanges). finite.get m recv) leased ∙ lease.1, part_stays r s lease.0 part (λ b is. (b, ap (λ l. slice_get l lease.0.region.0) (sym areas) ∙ is, refl, refl)) lease.2)

pub stay_held : StayHeld
stay_held r send xs free = (λ other part y is. (kept other part y is, refl), λ recv. lease_kept r (with_holds r send xs) refl refl recv)
  where
    -- what is held is not under a new key
    kept : (other part : ℕ) (y : Span) → finite.get r.held (hold_key other part) ≡ Some y → finite.get (with_holds r send xs).held (hold_key other part) ≡ Some y
    kept other part y is = get_all r.held send 0 xs (hold_key other part) (λ i lt. other_key r.held (hold_key send (0 + i)) (hold_key other part) y (free (0 + i) (omega (arith, lt))) is) ∙ is

pub stay_dropped : StayDropped
stay_dropped r send k = (λ other ne part y is. (get_but r.held send k (hold_key other part) (λ i lt. another_send other send part i ne) ∙ is, refl), λ recv. lease_kept r (without_holds r send k) refl refl recv)

-- what a finite map has at a key has what all its values have
get_has : {K : Type 0} {R : K → K → Ordering} (o : Exact R) (P : Span → Type 0) (m : finite.FinMap R Span) (q : K) (y : Span) → All P (finite.values m) → finite.get m q ≡ Some y → P y
get_has o P m q y all is = found_has o P (finite.entries m) q y all (sym (find_is_lookup o (finite.entries m) q) ∙ sym (finite.get-entries m q) ∙ is)

-- a range that is not refused lies in its region, and overlaps nothing that it must not
pub not_refused : (o : Option Area) (x : Span) (busy : Bool) → refusal_in o x busy ≡ None → (a : Area) × (o ≡ Some a) × (x.at + x.len ≤ length a.cells) × (busy ≡ false)
unfolding refusal_in
not_refused None x busy none = cc
not_refused (Some a) x busy none = by (nat_lt (length a.cells) (x.at + x.len)) refl busy none
  where
    by : (over : Bool) → nat_lt (length a.cells) (x.at + x.len) ≡ over → (b : Bool) → (if over then Some Range else if b then Some Busy else None) ≡ None → (c : Area) × (Some a ≡ Some c) × (x.at + x.len ≤ length c.cells) × (b ≡ false)
    by true e b h = cc
    by false e true h = cc
    by false e false h = (a, refl, ltb-false (length a.cells) (x.at + x.len) e, refl)

fits_area : (y : Span) (b : Area) → y.at + y.len ≤ length b.cells → (xs : List (Option ℕ)) → length xs ≡ y.len → (a : Area) → Some b ≡ Some a → y.at + length xs ≤ length a.cells
fits_area y b fits xs long a e = let same : b ≡ a = cc in let cells = ap (λ (c : Area). length c.cells) same in omega (arith, fits, long, cells)

pub stay_leased : StayLeased
stay_leased r recv y sound none allowed =
    let free = not_refused (slice_get r.areas y.region.0) y (meets_one y r.leased || meets_one y r.held) allowed in
    let gone : length (replicate {A = Option ℕ} y.len None) ≡ y.len = length-replicate y.len None in
    let clear = (or_parts (meets_one y r.leased) (meets_one y r.held) free.3).1 in (
      λ send part x is.
          let in_it = sound.held_lie send part x is in
          let apart = meets_back y x (get_has by_key (λ z. meets y z ≡ false) r.held (hold_key send part) x (none_each (meets y) (finite.values r.held) clear) is) in
          (is, ap (filter_map (λ (c : Option ℕ). c)) (bytes_beside r.areas x y (replicate y.len None) in_it.0 free.0 gone in_it.1 in_it.2 free.1 free.2 apart)),
      λ other part lease. (
        lease.0,
        get_beside by_number r.leased recv other y (other_key r.leased recv other lease.0 none lease.1) ∙ lease.1,
        part_stays r (with_lease r recv y) lease.0 part (λ b is. alike_laid r.areas y.region.0 y.at (replicate y.len None) (λ a there. fits_area y free.0 free.2 (replicate y.len None) gone a (sym free.1 ∙ there)) lease.0.region.0 b is) lease.2,
      ),
    )

-- what comes back where a range was leased
abbrev StayBeside : Registry → ℕ → Registry → Type 0
StayBeside r recv s = ((send : ℕ) → HoldStays r s send) × ((other : ℕ) → (other ≡ recv → ⊥) → LeaseStays r s other)

pub stay_returned : StayReturned
stay_returned r recv part sound lease =
    let y = lease.0 in
    let in_it = sound.leased_lie recv y lease.1 in
    let long : length (each {A = ℕ} {B = Option ℕ} Some part.bytes) ≡ y.len = length-map part.bytes Some ∙ lease.2.len in
    subst (StayBeside r recv) (ap (λ o. returned o r recv part.bytes) (sym lease.1)) (
      λ send place x is.
          let held_in = sound.held_lie send place x is in
          (is, ap (filter_map (λ (c : Option ℕ). c)) (bytes_beside r.areas x y (each Some part.bytes) held_in.0 in_it.0 long held_in.1 held_in.2 in_it.1 in_it.2 (sound.holds_apart send place recv x y is lease.1))),
      λ other ne p l. (
        l.0,
        get_without by_number r.leased recv other ne ∙ l.1,
        part_stays r (returned (Some y) r recv part.bytes) l.0 p (λ b is. alike_laid r.areas y.region.0 y.at (each Some part.bytes) (λ a there. fits_area y in_it.0 in_it.2 (each Some part.bytes) long a (sym in_it.1 ∙ there)) l.0.region.0 b is) l.2,
      ),
    )
