-- The marked numbers of places: what a put, a take, a mark and a clean-up make of them.
use Rattle.std.proofs.Common.{◌≡◌, ℕ, Bool, true, false, zero, suc, ◌+◌, ◌<◌, ◌≤◌, List, [], ◌∷◌, ◌++◌, length, map, get_or, set, take, Option, Some, None, is_some, cond, filter, refl, sym, ap, ◌∙◌, arith}
use Rattle.std.specs.List.{slice_set}
use Rattle.std.proofs.lemmas.Bool.Decides.{nat_tests}
use Rattle.std.proofs.lemmas.List.{map-set, map-append, length-map, take_more, length-take-le}
use Rattle.std.proofs.Math.ListN.{get_or-map}
use Rattle.rdm_pool.specs.Marks.{has_number, with_number, without_number}
use Rattle.rdm_pool.specs.Numbered.{HaveValues, value_at}
use Rattle.rdm_pool.specs.declared.places.Place.{Place}
use Rattle.rdm_pool.specs.Places.{Rises, AreBelow, IsAt, IsNowhere, with_entry, HaveEnds, HaveMarks, end_of, if_marked, numbers_of, live, marked_numbers, after_set_mark}
use Rattle.rdm_pool.proofs.Entries.{no_entry}
use Rattle.rdm_pool.proofs.Search.{least_of, key_at, no_key}
use Rattle.rdm_pool.proofs.Live.{has_key}
use Rattle.rdm_pool.proofs.Following.{ends_within, ends-last, ends-set}
use Rattle.rdm_pool.proofs.Marks.{NumbersRise, with-low, without-none, without-low, numbers_rise, has-numbers_of, have-lower, have-more}

-- the numbers of marked places rise as those of the places
pub rises-marked : (least : ℕ) (places : List Place) → Rises least places → Rises least (map if_marked places)
rises-marked least [] rises = tt
rises-marked least (place ∷ rest) rises = (rises.0, rises-marked (place.number + 1) rest rises.1)

-- and stay below a bound
pub below-marked : (bound : ℕ) (places : List Place) → AreBelow bound places → AreBelow bound (map if_marked places)
below-marked bound [] below = tt
below-marked bound (place ∷ rest) below = (below.0, below-marked bound rest below.1)

-- a number stands where it does
at-marked : (places : List Place) (number i : ℕ) → IsAt places number i → IsAt (map if_marked places) number i
at-marked [] number i is = is
at-marked (place ∷ rest) number zero is = is
at-marked (place ∷ rest) number (suc i) is = at-marked rest number i is

-- or nowhere
nowhere-marked : (places : List Place) (number : ℕ) → IsNowhere places number → IsNowhere (map if_marked places) number
nowhere-marked [] number absent = tt
nowhere-marked (place ∷ rest) number absent = (absent.0, nowhere-marked rest number absent.1)

-- a number is marked where its place is, if it is not gone
pub has-marked : (places : List Place) (number i : ℕ) (d : Place) → Rises 0 places → IsAt places number i → has_number (marked_numbers places) number ≡ is_some (if_marked (get_or places i d)).key
has-marked places number i d rises is =
    has-numbers_of (live (map if_marked places)) number
    ∙ ap is_some (sym (key_at 0 (map if_marked places) number i (if_marked d) (rises-marked 0 places rises) (at-marked places number i is)))
    ∙ ap (λ place. is_some place.key) (get_or-map if_marked places i d)

-- and not where it has none
pub has-nowhere : (places : List Place) (number : ℕ) → IsNowhere places number → has_number (marked_numbers places) number ≡ false
has-nowhere places number absent = rw (has-numbers_of (live (map if_marked places)) number, no_key (map if_marked places) number (nowhere-marked places number absent)) refl

-- the numbers once one of them is there or not
abbrev changed : Option ℕ → List ℕ → ℕ → List ℕ
changed None numbers number = without_number numbers number
changed (Some key) numbers number = with_number numbers number

-- the entry of a number in place of the one that it had, before greater numbers
entry-changed : (number : ℕ) (new old : Option ℕ) (entries : List (ℕ × ℕ)) → NumbersRise (number + 1) (numbers_of entries) → numbers_of (with_entry number new entries) ≡ changed new (numbers_of (with_entry number old entries)) number
unfolding with_number without_number
entry-changed number None None entries rises = sym (without-low (number + 1) (numbers_of entries) number rises (omega arith))
entry-changed number None (Some key) entries rises = grind (arith, nat_tests)
entry-changed number (Some key) None entries rises = sym (with-low (number + 1) (numbers_of entries) number rises (omega arith))
entry-changed number (Some key) (Some other) entries rises = grind (arith, nat_tests)

-- a change after a lower number
changed-later : (first : ℕ) (o new : Option ℕ) (old entries : List (ℕ × ℕ)) (number : ℕ) → first < number → numbers_of entries ≡ changed new (numbers_of old) number → numbers_of (with_entry first o entries) ≡ changed new (numbers_of (with_entry first o old)) number
unfolding with_number without_number
changed-later first None new old entries number less is = is
changed-later first (Some key) None old entries number less is = grind (arith, nat_tests, is, less)
changed-later first (Some key) (Some item) old entries number less is = grind (arith, nat_tests, is, less)

-- a place in place of another with its number
numbers-set : (least : ℕ) (places : List Place) (number i : ℕ) (new : Place) → IsAt places number i → new.number ≡ number → Rises least places → numbers_of (live (set places i new)) ≡ changed new.key (numbers_of (live places)) number
unfolding live
numbers-set least [] number i new is same rises = absurd is
numbers-set least (place ∷ rest) number zero new is same rises = rw (same, ← is) (entry-changed place.number new.key place.key (live rest) (numbers_rise (place.number + 1) rest rises.1))
numbers-set least (place ∷ rest) number (suc i) new is same rises =
    let later = least_of (place.number + 1) rest number i rises.1 is in
    changed-later place.number place.key new.key (live rest) (live (set rest i new)) number (omega arith) (numbers-set (place.number + 1) rest number i new is same rises.1)

-- of the marked numbers
marked-set : (places : List Place) (number i : ℕ) (new : Place) → IsAt places number i → new.number ≡ number → Rises 0 places → marked_numbers (slice_set places i new) ≡ changed (if_marked new).key (marked_numbers places) number
marked-set places number i new is same rises =
    ap (λ xs. numbers_of (live xs)) (map-set if_marked places i new)
    ∙ numbers-set 0 (map if_marked places) number i (if_marked new) (at-marked places number i is) same (rises-marked 0 places rises)

-- without a key there is none, marked or not
no_mark : (mark : Bool) (o : Option ℕ) → o ≡ None → cond mark o None ≡ None
no_mark true o none = none
no_mark false o none = refl

-- a place that is gone has no marked number
pub marked-gone : (places : List Place) (number i : ℕ) (gone : Place) → IsAt places number i → gone.number ≡ number → gone.key ≡ None → Rises 0 places → marked_numbers (slice_set places i gone) ≡ without_number (marked_numbers places) number
marked-gone places number i gone is same none rises =
    marked-set places number i gone is same rises ∙ ap (λ o. changed o (marked_numbers places) number) (no_mark gone.is_marked gone.key none)

-- no number goes away that has no key
pub marked-absent : (places : List Place) (number : ℕ) → value_at (live (map if_marked places)) number ≡ None → without_number (marked_numbers places) number ≡ marked_numbers places
marked-absent places number none = without-none (marked_numbers places) number (rw (has-numbers_of (live (map if_marked places)) number, none) refl)

-- a number whose place is gone is not among the marked
gone_unmarked : (places : List Place) (number i : ℕ) (d : Place) → IsAt places number i → (get_or places i d).key ≡ None → Rises 0 places → value_at (live (map if_marked places)) number ≡ None
gone_unmarked places number i d is none rises =
    sym (key_at 0 (map if_marked places) number i (if_marked d) (rises-marked 0 places rises) (at-marked places number i is))
    ∙ ap (λ place. place.key) (get_or-map if_marked places i d)
    ∙ no_mark (get_or places i d).is_marked (get_or places i d).key none

-- a place whose mark is set or taken away
pub marked-mark : (places : List Place) (number i : ℕ) (d new : Place) → IsAt places number i → new.number ≡ number → new.key ≡ (get_or places i d).key → Rises 0 places → marked_numbers (slice_set places i new) ≡ after_set_mark new.is_marked (value_at (live places) number) (marked_numbers places) number
marked-mark places number i d new is same kept rises =
    marked-set places number i new is same rises
    ∙ by_mark new.is_marked new.key (λ none. marked-absent places number (gone_unmarked places number i d is (sym kept ∙ none) rises))
    ∙ ap (λ o. after_set_mark new.is_marked o (marked_numbers places) number) (kept ∙ key_at 0 places number i d rises is)
  where
    by_mark : (mark : Bool) (o : Option ℕ) → (o ≡ None → without_number (marked_numbers places) number ≡ marked_numbers places) → changed (cond mark o None) (marked_numbers places) number ≡ after_set_mark mark o (marked_numbers places) number
    by_mark true (Some key) absent = refl
    by_mark true None absent = absent refl
    by_mark false o absent = refl

-- a number that has no place has no mark
pub marked-nowhere : (mark : Bool) (places : List Place) (number : ℕ) → IsNowhere places number → marked_numbers places ≡ after_set_mark mark (value_at (live places) number) (marked_numbers places) number
marked-nowhere true places number absent = rw (no_key places number absent) refl
marked-nowhere false places number absent = sym (without-none (marked_numbers places) number (has-nowhere places number absent))

-- the same numbers are live where a place keeps its number and its key
pub live-same : (places : List Place) (number i : ℕ) (d new : Place) → IsAt places number i → new.number ≡ number → new.key ≡ (get_or places i d).key → live (slice_set places i new) ≡ live places
unfolding live
live-same [] number i d new is same kept = absurd is
live-same (place ∷ rest) number zero d new is same kept = rw (same, kept, is) refl
live-same (place ∷ rest) number (suc i) d new is same kept = ap (with_entry place.number place.key) (live-same rest number i d new is same kept)

-- and the ends are those of the places
pub ends-same : (places : List Place) (ends : List ℕ) (number i : ℕ) (d new : Place) → IsAt places number i → new.number ≡ number → new.key ≡ (get_or places i d).key → HaveEnds places ends → HaveEnds (slice_set places i new) ends
ends-same [] ends number i d new is same kept have = absurd is
ends-same (place ∷ rest) [] number i d new is same kept have = absurd have
ends-same (place ∷ rest) (end ∷ ends) number zero d new is same kept have = (rw (same, kept, ← is) have.0, have.1)
ends-same (place ∷ rest) (end ∷ ends) number (suc i) d new is same kept have = (have.0, ends-same rest ends number i d new is same kept have.1)

-- the mark of one place is set
pub marks-set : (places : List Place) (marks : List ℕ) (number i end : ℕ) (new : Place) → IsAt places number i → end ≡ end_of new.number (if_marked new).key → HaveMarks places marks → HaveMarks (slice_set places i new) (set marks i end)
marks-set places marks number i end new is ends have = rw (map-set if_marked places i new) (ends-set (map if_marked places) marks number i end (if_marked new) (at-marked places number i is) ends have)

-- a place that is gone has no mark
pub marks-gone : (places : List Place) (marks : List ℕ) (number i : ℕ) (gone : Place) → IsAt places number i → gone.key ≡ None → HaveMarks places marks → HaveMarks (slice_set places i gone) (set marks i 0)
marks-gone places marks number i gone is none have = marks-set places marks number i 0 gone is (sym (ap (end_of gone.number) (no_mark gone.is_marked gone.key none))) have

-- there are as many leaves for marks as places at least
pub marks_within : (places : List Place) (marks : List ℕ) → HaveMarks places marks → length places ≤ length marks
marks_within places marks have = omega (arith, length-map places if_marked, ends_within (map if_marked places) marks have)

-- one more place of a list
pub marks-more : (places : List Place) (marks : List ℕ) (at : ℕ) (d : Place) → at < length places → length places ≤ length marks → HaveMarks (take at places) marks → HaveMarks (take (at + 1) places) (set marks at (end_of (get_or places at d).number (if_marked (get_or places at d)).key))
marks-more places marks at d within room have = rw (take_more places at d within, map-append if_marked (take at places) (get_or places at d ∷ [])) (ends-last (map if_marked (take at places)) marks (if_marked (get_or places at d)) at (sym (length-map (take at places) if_marked ∙ length-take-le at places (omega arith))) (omega arith) have)

-- one more place, which is not marked
pub marks-last : (places : List Place) (marks : List ℕ) (place : Place) → place.is_marked ≡ false → length places < length marks → HaveMarks places marks → HaveMarks (places ++ place ∷ []) marks
marks-last [] [] place unmarked within have = absurd (omega (arith, within))
marks-last [] (end ∷ marks) place unmarked within have = rw unmarked have
marks-last (first ∷ rest) [] place unmarked within have = absurd have
marks-last (first ∷ rest) (end ∷ marks) place unmarked within have = (have.0, marks-last rest marks place unmarked (omega (arith, within)) have.1)

-- has no marked number
pub marked-last : (places : List Place) (place : Place) → place.is_marked ≡ false → marked_numbers (places ++ place ∷ []) ≡ marked_numbers places
unfolding live
marked-last places place unmarked = ap numbers_of (live-unmarked places)
  where
    live-unmarked : (places : List Place) → live (map if_marked (places ++ place ∷ [])) ≡ live (map if_marked places)
    live-unmarked [] = rw unmarked refl
    live-unmarked (first ∷ rest) = ap (with_entry first.number (if_marked first).key) (live-unmarked rest)

-- without the places that are gone the same numbers are marked
pub marked-filter : (places : List Place) → marked_numbers (filter has_key places) ≡ marked_numbers places
unfolding live
marked-filter places = ap numbers_of (live-filter places)
  where
    keyless : (mark : Bool) (o : Option ℕ) → is_some o ≡ false → is_some (cond mark o None) ≡ false
    keyless true o none = none
    keyless false o none = refl

    live-filter : (places : List Place) → live (map if_marked (filter has_key places)) ≡ live (map if_marked places)
    live-filter [] = refl
    live-filter (place ∷ rest) =
        elim (has_key place) as (λ b. has_key place ≡ b → live (map if_marked (cond b (place ∷ filter has_key rest) (filter has_key rest))) ≡ with_entry place.number (if_marked place).key (live (map if_marked rest))) [
          | true ↦ λ _. ap (with_entry place.number (if_marked place).key) (live-filter rest)
          | false ↦ λ gone. live-filter rest ∙ sym (no_entry place.number (if_marked place).key (live (map if_marked rest)) (keyless place.is_marked place.key gone))
        ] refl

-- each marked number has a key
pub have-marked : (least : ℕ) (places : List Place) → Rises least places → HaveValues least (live places) (marked_numbers places)
unfolding live value_at
have-marked least [] rises = tt
have-marked least (place ∷ rest) rises = have-entry place.is_marked place.number place.key (live rest) (live (map if_marked rest)) rises.0 (have-more (place.number + 1) place.number place.key (live rest) (marked_numbers rest) (omega arith) (have-marked (place.number + 1) rest rises.1))
  where
    have-entry : (mark : Bool) (number : ℕ) (o : Option ℕ) (entries marked : List (ℕ × ℕ)) → least ≤ number → HaveValues (number + 1) (with_entry number o entries) (numbers_of marked) → HaveValues least (with_entry number o entries) (numbers_of (with_entry number (cond mark o None) marked))
    have-entry true number None entries marked le have = have-lower least (number + 1) entries (numbers_of marked) (omega arith) have
    have-entry false number None entries marked le have = have-lower least (number + 1) entries (numbers_of marked) (omega arith) have
    have-entry true number (Some key) entries marked le have = (le, grind (arith, nat_tests), have)
    have-entry false number (Some key) entries marked le have = have-lower least (number + 1) ((number, key) ∷ entries) (numbers_of marked) (omega arith) have
