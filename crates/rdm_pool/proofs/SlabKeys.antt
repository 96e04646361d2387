-- What the slab lists under the keys of live numbers.
use Rattle.std.proofs.Common.{◌≡◌, ◌≢◌, ℕ, suc, ◌+◌, ◌<◌, ◌≤◌, List, [], ◌∷◌, ◌++◌, length, Option, Some, None, IsSome, inl, inr, refl, sym, ap, ◌∙◌, arith}
use Rattle.std.proofs.lemmas.Bool.{cases_eq}
use Rattle.std.proofs.lemmas.Bool.Decides.{nat_tests}
use Rattle.slab.specs.Slab.{Slab, get, Updates}
use Rattle.rdm_pool.specs.Numbered.{RisesWithin, value_at}
use Rattle.rdm_pool.specs.declared.places.Place.{Place}
use Rattle.rdm_pool.specs.Places.{Rises, AreBelow, IsFree, AreHeld, with_entry, live, listed}

-- the value under a key, if there is a key
abbrev pub value_under : {T : Type 0} → Slab T → Option ℕ → Option T
value_under values None = None
value_under values (Some key) = get values key

module _ {T : Type 0} where
  -- what an option holds, from a proof that it holds something
  pub some_of : (o : Option T) → IsSome o → (value : T) × (o ≡ Some value)
  some_of None held = absurd (cc)
  some_of (Some value) held = (value, refl)

  -- a key with a value lists its number and the value
  pub listed-held : (values : Slab T) (pair : ℕ × ℕ) (rest : List (ℕ × ℕ)) (value : T) → get values pair.1 ≡ Some value → listed values (pair ∷ rest) ≡ (pair.0, value) ∷ listed values rest
  unfolding listed
  listed-held values pair rest value held = ap (λ o. with_entry pair.0 o (listed values rest)) held

  -- as many are listed as there are keys
  pub length-listed : (values : Slab T) (pairs : List (ℕ × ℕ)) → AreHeld values pairs → length (listed values pairs) ≡ length pairs
  unfolding listed
  length-listed values [] held = refl
  length-listed values (pair ∷ rest) held =
      let some = some_of (get values pair.1) held.0 in
      ap length (listed-held values pair rest some.0 some.1) ∙ ap suc (length-listed values rest held.2)

  -- the value that is listed under a number is the one under the number's key
  pub found_at : (values : Slab T) (pairs : List (ℕ × ℕ)) (number : ℕ) → AreHeld values pairs → value_at (listed values pairs) number ≡ value_under values (value_at pairs number)
  unfolding listed value_at
  found_at values [] number held = refl
  found_at values (pair ∷ rest) number held =
      let some = some_of (get values pair.1) held.0 in
      let later = found_at values rest number held.2 in
      rw (listed-held values pair rest some.0 some.1) (grind (arith, nat_tests, later, some.1))

  -- a change of one key leaves what pairs without it list
  pub listed-elsewhere : (old new : Slab T) (key : ℕ) (slot : Option T) (pairs : List (ℕ × ℕ)) → Updates old new key slot → IsFree pairs key → listed new pairs ≡ listed old pairs
  unfolding listed
  listed-elsewhere old new key slot [] updates free = refl
  listed-elsewhere old new key slot (pair ∷ rest) updates free = rw (updates.others pair.1 free.0, listed-elsewhere old new key slot rest updates free.1) refl

  -- a change of one key leaves pairs without it held
  pub held-elsewhere : (old new : Slab T) (key : ℕ) (slot : Option T) (pairs : List (ℕ × ℕ)) → Updates old new key slot → IsFree pairs key → AreHeld old pairs → AreHeld new pairs
  held-elsewhere old new key slot [] updates free held = tt
  held-elsewhere old new key slot (pair ∷ rest) updates free held = (rw (updates.others pair.1 free.0) held.0, held.1, held-elsewhere old new key slot rest updates free.1 held.2)

  -- a vacant key is free
  pub vacant_free : (values : Slab T) (key : ℕ) (pairs : List (ℕ × ℕ)) → get values key ≡ None → AreHeld values pairs → IsFree pairs key
  vacant_free values key [] vacant held = tt
  vacant_free values key (pair ∷ rest) vacant held = (λ same. absurd (cc (ap (get values) same, vacant, held.0)), vacant_free values key rest vacant held.2)

  -- a pair at the end lists its value at the end
  pub listed-last : (values : Slab T) (pairs : List (ℕ × ℕ)) (pair : ℕ × ℕ) (value : T) → get values pair.1 ≡ Some value → AreHeld values pairs → listed values (pairs ++ pair ∷ []) ≡ listed values pairs ++ (pair.0, value) ∷ []
  unfolding listed
  listed-last values [] pair value is held = listed-held values pair [] value is
  listed-last values (first ∷ rest) pair value is held =
      let some = some_of (get values first.1) held.0 in
      rw (some.1, listed-last values rest pair value is held.2) refl

  -- a pair at the end with a key that was free
  pub held-last : (values : Slab T) (pairs : List (ℕ × ℕ)) (pair : ℕ × ℕ) → IsSome (get values pair.1) → IsFree pairs pair.1 → AreHeld values pairs → AreHeld values (pairs ++ pair ∷ [])
  held-last values [] pair is free held = (is, tt, tt)
  held-last values (first ∷ rest) pair is free held = (held.0, free-last rest pair first.1 held.1 (λ same. free.0 (sym same)), held-last values rest pair is free.1 held.2)
    where
      free-last : (pairs : List (ℕ × ℕ)) (pair : ℕ × ℕ) (key : ℕ) → IsFree pairs key → pair.1 ≢ key → IsFree (pairs ++ pair ∷ []) key
      free-last [] pair key free other = (other, tt)
      free-last (first ∷ rest) pair key free other = (free.0, free-last rest pair key free.1 other)

  -- the key of a number has a value
  pub key_held : (values : Slab T) (pairs : List (ℕ × ℕ)) (number key : ℕ) → Some key ≡ value_at pairs number → AreHeld values pairs → IsSome (get values key)
  unfolding value_at
  key_held values [] number key is held = absurd (cc)
  key_held values (pair ∷ rest) number key is held = elim (cases_eq pair.0 number) [
    | inl here ↦ grind (arith, nat_tests, held.0)
    | inr away ↦ grind (arith, nat_tests, key_held values rest number key)
  ]

module _ {A : Type 0} where
  -- an entry in front, if it fits there, rises with the rest
  rises-entry : (least bound number : ℕ) (o : Option A) (rest : List (ℕ × A)) → least ≤ number → number < bound → RisesWithin (number + 1) rest bound → RisesWithin least (with_entry number o rest) bound
  rises-entry least bound number None rest least_is below rises = rises_lower least (number + 1) rest (omega arith) rises
    where
      rises_lower : (low least : ℕ) (rest : List (ℕ × A)) → low ≤ least → RisesWithin least rest bound → RisesWithin low rest bound
      rises_lower low least [] le rises = tt
      rises_lower low least (entry ∷ rest) le rises = (omega (arith, rises.0), rises.1, rises.2)
  rises-entry least bound number (Some item) rest least_is below rises = (least_is, below, rises)

-- the numbers of places rise below a bound where they are live
pub rises_live : (least bound : ℕ) (places : List Place) → Rises least places → AreBelow bound places → RisesWithin least (live places) bound
unfolding live
rises_live least bound [] rises below = tt
rises_live least bound (place ∷ rest) rises below = rises-entry least bound place.number place.key (live rest) rises.0 below.0 (rises_live (place.number + 1) bound rest rises.1 below.1)

module _ {T : Type 0} where
  -- so do the numbers that are listed
  pub rises_listed : (values : Slab T) (least bound : ℕ) (pairs : List (ℕ × ℕ)) → RisesWithin least pairs bound → RisesWithin least (listed values pairs) bound
  unfolding listed
  rises_listed values least bound [] rises = tt
  rises_listed values least bound (pair ∷ rest) rises = rises-entry least bound pair.0 (get values pair.1) (listed values rest) rises.0 rises.1 (rises_listed values (pair.0 + 1) bound rest rises.2)
