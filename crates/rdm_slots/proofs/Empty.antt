-- How each change of the places keeps the list of the empty ones.
use Rattle.std.proofs.Common.{◌≡◌, ◌≢◌, ℕ, zero, suc, ◌≤◌, List, [], ◌∷◌, ◌++◌, length, get_or, set, slice_get, Option, Some, None, refl, sym, ap, subst, ◌∙◌, arith, length-set}
use Rattle.std.proofs.lemmas.List.{length_push, set-get_or, get_or-set_other, get_or-set_same}
use Rattle.std.proofs.lemmas.Option.{slice_get_within, slice_get-get_or, get_or_from_slice_get}
use Rattle.rdm_slots.proofs.Counts.{count-set, value_read}
use Rattle.rdm_slots.specs.Kept.{IsNoneOf, AreEmptyPlaces, AreListed}

-- a number that is put last is none of those before
none_of-last : (numbers : List ℕ) (last number : ℕ) → IsNoneOf numbers number → last ≢ number → IsNoneOf (numbers ++ last ∷ []) number
none_of-last [] last number none other = (other, tt)
none_of-last (first ∷ rest) last number none other = (none.0, none_of-last rest last number none.1 other)

-- the last number is another one than each before
last_is_other : (numbers : List ℕ) (last number : ℕ) → IsNoneOf (numbers ++ last ∷ []) number → (last ≢ number) × IsNoneOf numbers number
last_is_other [] last number none = (none.0, tt)
last_is_other (first ∷ rest) last number none =
    let later = last_is_other rest last number none.1 in
    (later.0, (none.0, later.1))

module _ {T : Type 0} where
  -- a change of one place leaves what each other one has
  slot_stays : (places : List (Option T)) (place other : ℕ) (new : Option T) → place ≢ other → slice_get places other ≡ Some None → slice_get (set places place new) other ≡ Some None
  slot_stays places place other new apart is =
      let within = slice_get_within places other None is in
      slice_get-get_or (set places place new) other None (omega (arith, length-set places place new))
      ∙ ap Some (get_or-set_other places place other new None (λ same. apart (sym same)) ∙ get_or_from_slice_get places other None None is)

  -- a change of a place that isn't among these leaves them empty
  pub empty-elsewhere : (places : List (Option T)) (place : ℕ) (new : Option T) (numbers : List ℕ) → IsNoneOf numbers place → AreEmptyPlaces places numbers → AreEmptyPlaces (set places place new) numbers
  empty-elsewhere places place new [] none empty = tt
  empty-elsewhere places place new (number ∷ rest) none empty = (slot_stays places place number new (λ same. none.0 (sym same)) empty.0, empty.1, empty-elsewhere places place new rest none.1 empty.2)

  -- the last of these is empty, and is none of those before
  pub empty-last : (places : List (Option T)) (numbers : List ℕ) (last : ℕ) → AreEmptyPlaces places (numbers ++ last ∷ []) → (slice_get places last ≡ Some None) × IsNoneOf numbers last × AreEmptyPlaces places numbers
  empty-last places [] last empty = (empty.0, tt, tt)
  empty-last places (number ∷ rest) last empty =
      let later = empty-last places rest last empty.2 in
      let other = last_is_other rest last number empty.1 in
      (later.0, ((λ same. other.0 (sym same)), later.1), (empty.0, other.1, later.2))

  -- an empty place that is none of these may stand last
  pub empty-push : (places : List (Option T)) (numbers : List ℕ) (last : ℕ) → slice_get places last ≡ Some None → IsNoneOf numbers last → AreEmptyPlaces places numbers → AreEmptyPlaces places (numbers ++ last ∷ [])
  empty-push places [] last is none empty = (is, tt, tt)
  empty-push places (number ∷ rest) last is none empty = (empty.0, none_of-last rest last number empty.1 (λ same. none.0 (sym same)), empty-push places rest last is none.1 empty.2)

  -- a place with a value is none of these
  pub value_is_none_of : (places : List (Option T)) (place : ℕ) (value : T) (numbers : List ℕ) → slice_get places place ≡ Some (Some value) → AreEmptyPlaces places numbers → IsNoneOf numbers place
  value_is_none_of places place value [] is empty = tt
  value_is_none_of places place value (number ∷ rest) is empty =
      let first = empty.0 in
      (λ same. absurd (cc (ap (slice_get places) same)), value_is_none_of places place value rest is empty.2)

  -- a place that is past all is none of these
  past_is_none_of : (places : List (Option T)) (place : ℕ) (numbers : List ℕ) → length places ≤ place → AreEmptyPlaces places numbers → IsNoneOf numbers place
  past_is_none_of places place [] past empty = tt
  past_is_none_of places place (number ∷ rest) past empty =
      let within = slice_get_within places number None empty.0 in
      (λ same. absurd (omega arith), past_is_none_of places place rest past empty.2)

  -- one more place leaves these empty
  empty-longer : (places : List (Option T)) (numbers : List ℕ) → AreEmptyPlaces places numbers → AreEmptyPlaces (places ++ None ∷ []) numbers
  empty-longer places [] empty = tt
  empty-longer places (number ∷ rest) empty = (slice_get-front places number empty.0, empty.1, empty-longer places rest empty.2)
    where
      slice_get-front : (places : List (Option T)) (number : ℕ) → slice_get places number ≡ Some None → slice_get (places ++ None ∷ []) number ≡ Some None
      slice_get-front [] number is = absurd (cc)
      slice_get-front (first ∷ rest) zero is = is
      slice_get-front (first ∷ rest) (suc number) is = slice_get-front rest number is

  -- one more place, which is empty
  pub empty-more : (places : List (Option T)) (numbers : List ℕ) → AreEmptyPlaces places numbers → AreEmptyPlaces (places ++ None ∷ []) (numbers ++ length places ∷ [])
  empty-more places numbers empty = empty-push (places ++ None ∷ []) numbers (length places) (at_end places) (past_is_none_of places (length places) numbers (omega arith) empty) (empty-longer places numbers empty)
    where
      at_end : (places : List (Option T)) → slice_get (places ++ None ∷ []) (length places) ≡ Some None
      at_end [] = refl
      at_end (first ∷ rest) = at_end rest

  -- the last of the numbers is that of an empty place
  pub listed-last : (places : List (Option T)) (numbers front : List ℕ) (last room : ℕ) → numbers ≡ front ++ last ∷ [] → AreListed places numbers room → slice_get places last ≡ Some None
  listed-last places numbers front last room is listed = (empty-last places front last (subst (AreEmptyPlaces places) is listed.empty)).0

  -- the last of the numbers is taken off the list as its place gets a value
  pub listed-put : (places : List (Option T)) (numbers front : List ℕ) (last room : ℕ) (value : T) → numbers ≡ front ++ last ∷ [] → AreListed places numbers room → AreListed (set places last (Some value)) front room
  listed-put places numbers front last room value is listed =
      let taken = empty-last places front last (subst (AreEmptyPlaces places) is listed.empty) in
      let counted = count-set places last None (Some value) taken.0 in
      let same = length-set places last (Some value) in
      let longer = ap length is ∙ length_push front last in
      record {
        empty = empty-elsewhere places last (Some value) front taken.1 taken.2;
        all = omega (arith, listed.all, counted, same, longer);
        fits = omega (arith, listed.fits, same);
      }

  -- a place is put on the list as its value is taken
  pub listed-take : (places : List (Option T)) (numbers : List ℕ) (place room : ℕ) (value : T) → get_or places place None ≡ Some value → AreListed places numbers room → AreListed (set places place None) (numbers ++ place ∷ []) room
  listed-take places numbers place room value read listed =
      let is = value_read places place value read in
      let none = value_is_none_of places place value numbers is listed.empty in
      let counted = count-set places place (Some value) None is in
      let same = length-set places place None in
      let longer = length_push numbers place in
      let within = slice_get_within places place (Some value) is in
      let left = empty-elsewhere places place None numbers none listed.empty in
      let here : slice_get (set places place None) place ≡ Some None = slice_get-get_or (set places place None) place None (omega (arith, same, within)) ∙ ap Some (get_or-set_same places place None None within) in
      record {
        empty = empty-push (set places place None) numbers place here none left;
        all = omega (arith, listed.all, counted, same, longer);
        fits = omega (arith, listed.fits, same);
      }

  -- another value in a place with one changes no list
  pub listed-write : (places : List (Option T)) (numbers : List ℕ) (place room : ℕ) (old new : T) → get_or places place None ≡ Some old → AreListed places numbers room → AreListed (set places place (Some new)) numbers room
  listed-write places numbers place room old new read listed =
      let is = value_read places place old read in
      let none = value_is_none_of places place old numbers is listed.empty in
      let counted = count-set places place (Some old) (Some new) is in
      let same = length-set places place (Some new) in
      record {
        empty = empty-elsewhere places place (Some new) numbers none listed.empty;
        all = omega (arith, listed.all, counted, same);
        fits = omega (arith, listed.fits, same);
      }

  -- what a place has, written into it again, changes no list
  pub listed-rewrite : (places : List (Option T)) (numbers : List ℕ) (place room : ℕ) (slot : Option T) → slot ≡ get_or places place slot → AreListed places numbers room → AreListed (set places place slot) numbers room
  listed-rewrite places numbers place room slot is listed = subst (λ p. AreListed p numbers room) (sym (ap (set places place) is ∙ set-get_or places place slot)) listed
