-- What is known where a chain of steps gave a value.
use Rattle.std.proofs.Common.{◌≡◌, Bool, true, false, Result, Ok, Err, refl}
use Rattle.std.specs.Prelude.{⊤}
use Rattle.rdm_json.specs.declared.place.Place.{Place}
use Rattle.rdm_json.specs.declared.refusal.Reason.{Reason}
use Rattle.rdm_json.specs.Results.{◌>>=◌, ◌>>◌, tested, placed}

-- the first step gave a value, and the rest what the whole gave
pub gave : {A B E : Type 0} (r : Result A E) (next : A → Result B E) (y : B) → (r >>= next) ≡ Ok y → (x : A) × (r ≡ Ok x) × (next x ≡ Ok y)
gave (Ok x) next y h = (x, refl, h)
gave (Err why) next y h = cc

-- the test held, and the rest gave what the whole gave
pub passed : {B E : Type 0} (t : Result ⊤ E) (rest : Result B E) (y : B) → (t >> rest) ≡ Ok y → (t ≡ Ok tt) × (rest ≡ Ok y)
passed (Ok x) rest y h = (refl, h)
passed (Err why) rest y h = cc

-- what was tested holds
pub held : (why : Reason) (b : Bool) → tested why b ≡ Ok tt → b ≡ true
held why true h = refl
held why false h = cc

-- a value that is tested and then given holds
pub tested_value : {A : Type 0} (why : Reason) (test : A → Bool) (x y : A) → (tested why (test x) >> Ok x) ≡ Ok y → test y ≡ true
tested_value why test x y h =
    let (t, same) = passed (tested why (test x)) (Ok x) y h in
    let is : x ≡ y = cc in
    rw (← is) (held why (test x) t)

-- what is given at a place is given
pub unplaced : {A : Type 0} (place : Place) (r : Result A Reason) (x : A) → placed place r ≡ Ok x → r ≡ Ok x
unplaced place (Ok y) x h = cc
unplaced place (Err why) x h = cc

-- the value that is given is the value that the chain gave
pub given : {A E : Type 0} (x y : A) → ◌≡◌ {A = Result A E} (Ok x) (Ok y) → x ≡ y
given x y h = cc
