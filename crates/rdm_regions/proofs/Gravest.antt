-- The gravest refusal of several ranges.
use Rattle.std.proofs.Common.{◌≡◌, refl, sym, ap, ◌∙◌, ℕ, suc, ◌+◌, ◌<◌, Bool, true, false, ◌||◌, List, [], ◌∷◌, length, get_or, take, Option, Some, None, arith}
use Rattle.std.specs.Prelude.{is_none, slice_get}
use Rattle.std.specs.List.{list_any}
use Rattle.std.proofs.Math.Bool.{or-false}
use Rattle.std.proofs.Math.Seq.{take-suc}
use Rattle.std.proofs.lemmas.List.Folds.{list_any-append}
use Rattle.rdm_num.specs.declared.parts.Span.{Span}
use Rattle.rdm_regions.specs.declared.refused.RegionRefused.{RegionRefused}
use Rattle.rdm_regions.specs.declared.refused.RegionRefused.TheVariants.{NoRegion, Range, Busy, Memory}
use Rattle.rdm_regions.specs.Ranges.{meets_one}
use Rattle.rdm_regions.specs.Registry.{Registry, Area, refusal_in, hold_refusal}
use Rattle.rdm_regions.specs.Holds.{lacks_region, passes_end_of, passes_end, refusal_of, parts_refusal, graver}
use Rattle.rdm_regions.proofs.Apart.{none_each}

-- a refusal is the first in order that is so
refusal_is : (o : Option Area) (x : Span) (busy : Bool) → refusal_in o x busy ≡ refusal_of (is_none o) (passes_end_of o x) busy
unfolding refusal_in
refusal_is None x busy = refl
refusal_is (Some area) x busy = refl

pub hold_refusal_by : (r : Registry) (x : Span) → hold_refusal r x ≡ refusal_of (lacks_region r x) (passes_end r x) (meets_one x r.leased)
hold_refusal_by r x = refusal_is (slice_get r.areas x.region.0) x (meets_one x r.leased)

-- nothing goes before no region
before_all : (o : Option RegionRefused) → graver (Some NoRegion) o ≡ Some NoRegion
unfolding graver
before_all None = refl
before_all (Some NoRegion) = refl
before_all (Some Range) = refl
before_all (Some Busy) = refl
before_all (Some Memory) = refl

-- the graver of two refusals is the first in order that either is
joined : (lacks passes busy lacks' passes' busy' : Bool) → graver (refusal_of lacks passes busy) (refusal_of lacks' passes' busy') ≡ refusal_of (lacks || lacks') (passes || passes') (busy || busy')
unfolding graver
joined true passes busy lacks' passes' busy' = before_all (refusal_of lacks' passes' busy')
joined false true busy true passes' busy' = refl
joined false true busy false true busy' = refl
joined false true busy false false true = refl
joined false true busy false false false = refl
joined false false true true passes' busy' = refl
joined false false true false true busy' = refl
joined false false true false false true = refl
joined false false true false false false = refl
joined false false false lacks' passes' busy' = refl

-- the first ranges and one more
any_next : (p : Span → Bool) (xs : List Span) (k : ℕ) (d : Span) → k < length xs → (list_any p (take k xs) || p (get_or xs k d)) ≡ list_any p (take (suc k) xs)
any_next p xs k d lt =
    ap (λ b. list_any p (take k xs) || b) (sym (or-false (p (get_or xs k d))))
    ∙ sym (list_any-append p (take k xs) (get_or xs k d ∷ []))
    ∙ ap (list_any p) (sym (take-suc xs k d lt))

pub graver_next : (r : Registry) (xs : List Span) (k : ℕ) (d : Span) (o : Option RegionRefused) → k < length xs → o ≡ parts_refusal r (take k xs) → graver o (hold_refusal r (get_or xs k d)) ≡ parts_refusal r (take (k + 1) xs)
graver_next r xs k d o lt so_far =
    let x = get_or xs k d in
    let next : suc k ≡ k + 1 = omega arith in
    ap (λ a. graver a (hold_refusal r x)) so_far
    ∙ ap (graver (parts_refusal r (take k xs))) (hold_refusal_by r x)
    ∙ joined (list_any (lacks_region r) (take k xs)) (list_any (passes_end r) (take k xs)) (list_any (λ y. meets_one y r.leased) (take k xs)) (lacks_region r x) (passes_end r x) (meets_one x r.leased)
    ∙ ap (λ b. refusal_of b (list_any (passes_end r) (take k xs) || passes_end r x) (list_any (λ y. meets_one y r.leased) (take k xs) || meets_one x r.leased)) (any_next (lacks_region r) xs k d lt)
    ∙ ap (λ b. refusal_of (list_any (lacks_region r) (take (suc k) xs)) b (list_any (λ y. meets_one y r.leased) (take k xs) || meets_one x r.leased)) (any_next (passes_end r) xs k d lt)
    ∙ ap (refusal_of (list_any (lacks_region r) (take (suc k) xs)) (list_any (passes_end r) (take (suc k) xs))) (any_next (λ y. meets_one y r.leased) xs k d lt)
    ∙ ap (λ j. parts_refusal r (take j xs)) next

-- where the ranges are not refused together, none is refused
none_so : (lacks passes busy : Bool) → refusal_of lacks passes busy ≡ None → (lacks ≡ false) × (passes ≡ false) × (busy ≡ false)
none_so true passes busy e = cc
none_so false true busy e = cc
none_so false false true e = cc
none_so false false false e = (refl, refl, refl)

pub none_refused : (r : Registry) (xs : List Span) (k : ℕ) (d : Span) → parts_refusal r xs ≡ None → k < length xs → hold_refusal r (get_or xs k d) ≡ None
none_refused r xs k d none lt =
    let x = get_or xs k d in
    let so = none_so (list_any (lacks_region r) xs) (list_any (passes_end r) xs) (list_any (λ y. meets_one y r.leased) xs) none in
    hold_refusal_by r x
    ∙ ap (λ b. refusal_of b (passes_end r x) (meets_one x r.leased)) (none_each (lacks_region r) xs so.0 k d lt)
    ∙ ap (λ b. refusal_of false b (meets_one x r.leased)) (none_each (passes_end r) xs so.1 k d lt)
    ∙ ap (refusal_of false false) (none_each (λ y. meets_one y r.leased) xs so.2 k d lt)
