-- JSON values as they are seen.
use Rattle.std.proofs.Common.{◌≡◌, ◌<◌, ◌+◌, ℕ, suc, true, List, [], ◌∷◌, length, map, get_or, drop, slice_index_or, Fits, w8, Result, Ok, Err, refl, ap, arith, add-one}
use Rattle.std.proofs.Math.Seq.{drop-cons}
use Rattle.std.proofs.lemmas.Bool.{and_from, lt-ltb}
use Rattle.serde_json.specs.View.{view, items_view}
use Rattle.serde_json.specs.declared.value.Value.{Value}
use Rattle.rdm_json.specs.declared.place.Place.{Place}
use Rattle.rdm_json.specs.declared.refusal.Reason.{Reason}
use Rattle.rdm_json.specs.Results.{placed, result_map}
use Rattle.rdm_json.specs.Values.{list_of, are_bytes}

-- the elements of an array are those of its view
pub list_of-items_view : (vs : List Value) → list_of (items_view vs) ≡ map view vs
list_of-items_view [] = refl
list_of-items_view (v ∷ vs) = ap (λ ds. view v ∷ ds) (list_of-items_view vs)

-- values of 8 bits are bytes
pub bytes_of_8_bits : (xs : List ℕ) → ((i : ℕ) → Fits w8 (slice_index_or xs i 0)) → are_bytes xs ≡ true
bytes_of_8_bits [] h = refl
bytes_of_8_bits (x ∷ xs) h =
    let first : Fits w8 x = h 0 in
    let small : x < 256 = omega (arith, first) in
    and_from _ _ (lt-ltb x 256 small) (bytes_of_8_bits xs (λ i. h (suc i)))

-- the next element of an array
pub view-next : (vs : List Value) (i : ℕ) (v : Value) → i < length vs → v ≡ get_or vs i v → map view (drop i vs) ≡ view v ∷ map view (drop (i + 1) vs)
view-next vs i v h e = rw (drop-cons vs i v h, ← e, add-one)

-- a value that was read at a place, as it is seen
pub placed-seen : {A B : Type 0} (see : A → B) (place : Place) (r : Result A Reason) (said : Result B Reason) (x : A)
    → result_map see r ≡ said → Ok x ≡ placed place r → placed place said ≡ Ok (see x)
placed-seen see place (Ok y) said x is e = let same : x ≡ y = cc in rw (← is, same)
placed-seen see place (Err why) said x is e = cc
