-- What the count of values says of the places.
use Rattle.std.proofs.Common.{◌≡◌, ℕ, zero, suc, ◌+◌, ◌==◌, List, [], ◌∷◌, get_or, set, count_by, slice_get, Option, Some, None, is_some, cond, refl, ap, arith}
use Rattle.std.proofs.lemmas.Bool.Decides.{nat_tests}
use Rattle.std.proofs.lemmas.List.Sums.{sum_by-set, sum_by-cons}
use Rattle.std.proofs.lemmas.Option.{slice_get_within, get_or_from_slice_get}
use Rattle.rdm_slots.specs.Counts.{CountsMove, EmptyHasNone}

module _ {T : Type 0} where
  -- what is read where there is a value
  pub value_read : (places : List (Option T)) (place : ℕ) (value : T) → get_or places place None ≡ Some value → slice_get places place ≡ Some (Some value)
  value_read [] place value is = absurd (cc)
  value_read (first ∷ rest) zero value is = ap Some is
  value_read (first ∷ rest) (suc place) value is = value_read rest place value is

  -- the count of values after a change of one place
  pub count-set : (places : List (Option T)) (place : ℕ) (old new : Option T) → slice_get places place ≡ Some old → count_by is_some (set places place new) + cond (is_some old) 1 0 ≡ count_by is_some places + cond (is_some new) 1 0
  count-set places place old new is =
      let within = slice_get_within places place old is in
      let counted = sum_by-set (λ o. cond (is_some o) 1 0) places place new old within in
      rw (get_or_from_slice_get places place old old is) at counted

  -- how each change of a place moves the count
  pub counts_move : CountsMove T
  counts_move = record {
    put = λ s place value is. omega (arith, count-set s.places place None (Some value) is);
    write = λ s place old new is. omega (arith, count-set s.places place (Some old) (Some new) (value_read s.places place old is));
    take = λ s place old is. omega (arith, count-set s.places place (Some old) None (value_read s.places place old is));
  }

  -- where none is counted, none is there
  none_there : (places : List (Option T)) → count_by is_some places ≡ 0 → (place : ℕ) → get_or places place None ≡ None
  none_there [] none place = refl
  none_there (Some value ∷ rest) none place = absurd (omega (arith, none, sum_by-cons (λ o. cond (is_some o) 1 0) (Some value) rest))
  none_there (None ∷ rest) none zero = refl
  none_there (None ∷ rest) none (suc place) = none_there rest (omega (arith, none, sum_by-cons (λ o. cond (is_some o) 1 0) None rest)) place

  -- where none is there, none is counted
  none_counted : (places : List (Option T)) → ((place : ℕ) → get_or places place None ≡ None) → count_by is_some places ≡ 0
  none_counted [] none = refl
  none_counted (Some value ∷ rest) none = absurd (cc (none 0))
  none_counted (None ∷ rest) none = omega (arith, sum_by-cons (λ o. cond (is_some o) 1 0) None rest, none_counted rest (λ place. none (suc place)))

  -- all places are empty exactly where no place has a value
  pub empty_has_none : EmptyHasNone T
  empty_has_none s = (λ empty. none_there s.places (grind (arith, nat_tests, empty)), λ none. ap (λ n. n == 0) (none_counted s.places none))
