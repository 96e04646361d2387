-- Steps of reading, each of which may find something wrong.
use Rattle.std.specs.Prelude.{◌≡◌, Bool, true, false, ⊤, List, ◌++◌, Option, Some, None, Result, Ok, Err}
use Rattle.rdm_json.specs.declared.place.Place.{Place}
use Rattle.rdm_json.specs.declared.refusal.Reason.{Reason}
use Rattle.rdm_json.specs.declared.refusal.BadScript.{BadScript}
use Rattle.rdm_json.specs.declared.refusal.ScriptRefused.{ScriptRefused}
use Rattle.rdm_json.specs.declared.refusal.ScriptRefused.TheVariants as refused

infixl 10 ◌>>=◌ ◌>>◌
-- a step, and then what comes of its value
abbrev pub ◌>>=◌ : {A B E : Type 0} → Result A E → (A → Result B E) → Result B E
(Ok x) >>= next = next x
(Err why) >>= next = Err why

-- a test, and then the rest
abbrev pub ◌>>◌ : {B E : Type 0} → Result ⊤ E → Result B E → Result B E
(Ok x) >> rest = rest
(Err why) >> rest = Err why

-- what has to hold, or else this is wrong
abbrev pub tested : Reason → Bool → Result ⊤ Reason
tested why true = Ok tt
tested why false = Err why

-- what has to be there, or else this is wrong
abbrev pub present : {A : Type 0} → Reason → Option A → Result A Reason
present why None = Err why
present why (Some x) = Ok x

-- what is wrong is wrong at this place
abbrev pub placed : {A : Type 0} → Place → Result A Reason → Result A BadScript
placed place (Ok x) = Ok x
placed place (Err why) = Err (record { place = place; why = why })

-- the script was refused for this, or memory ran out
abbrev pub RefusedFor : {A : Type 0} → ScriptRefused → Result A BadScript → Type 0
RefusedFor (refused.Bad bad) said = said ≡ Err bad
RefusedFor refused.Memory said = ⊤

-- a reader gave what is said, or what is wrong, unless memory ran out
abbrev pub Gives : {A : Type 0} → Result A ScriptRefused → Result A BadScript → Type 0
Gives (Ok x) said = said ≡ Ok x
Gives (Err why) said = RefusedFor why said

-- a value as it is seen
abbrev pub result_map : {A B E : Type 0} → (A → B) → Result A E → Result B E
result_map f (Ok x) = Ok (f x)
result_map f (Err why) = Err why

-- a reader gave what is said, as it is seen, or what is wrong, unless memory ran out
abbrev pub GivesAs : {A B : Type 0} → (A → B) → Result A ScriptRefused → Result B BadScript → Type 0
GivesAs see (Ok x) said = said ≡ Ok (see x)
GivesAs see (Err why) said = RefusedFor why said

-- these, and then what was read
abbrev pub with_front : {A E : Type 0} → List A → Result (List A) E → Result (List A) E
with_front front r = r >>= λ xs. Ok (front ++ xs)
