-- What each step tells its seat, from the view and the slots that are out with the seat before to those after.
use Rattle.std.specs.Prelude.{◌≡◌, ◌≢◌, ℕ, ◌+◌, ◌-◌, ◌<◌, [], ◌∷◌, Option, Some, None}
use Rattle.atomic_table.specs.Table.{Me, Step}
use Rattle.rdm_turn.specs.declared.rule.Stand.{Stand}
use Rattle.rdm_turn.specs.declared.rule.Hand.{Hand}
use Rattle.rdm_turn.specs.declared.rule.Hand.TheVariants.{Nothing, Full, Out}
use Rattle.rdm_turn.specs.Knowing.{without, stand}

-- a seat: its view, and the slots that are out with it
abbrev pub Sitter : Type 0 → Type 0
Sitter V = Me (Option V) Stand

-- the seat has a part, this in hand, and no slot out with it
abbrev pub HasInHand : {V : Type 0} → Hand → Sitter V → Type 0
HasInHand hand me = (0 < me.0.parts) × (me.0.hand ≡ hand) × (me.1 ≡ [])

-- a seat with this view but with this in hand, and with no slot out
abbrev pub with_in_hand : {V : Type 0} → Hand → Stand → Sitter V
with_in_hand hand v = (record v { hand = hand }, [])

-- a seat with this view but with the slot of this place out, which has this value or none
abbrev pub with_out : {V : Type 0} → ℕ → Option V → Stand → Sitter V
with_out i value v = (record v { hand = Out i }, (i, value) ∷ [])

-- the view with this place among the taken ones
abbrev pub with_taken : ℕ → Stand → Stand
with_taken i v = record v { taken = i ∷ v.taken }

-- the view without this place among them
abbrev pub without_taken : ℕ → Stand → Stand
without_taken i v = record v { taken = without i v.taken }

-- a seat keeps this part of its view when it is split
abbrev pub one_fewer : Stand → Stand
one_fewer v = record v { parts = v.parts - 1 }

-- the view of a new seat: one part, and no place
abbrev pub newcomer : Stand
newcomer = stand 1 [] Nothing

-- the view with the parts of another as well
abbrev pub joined : Stand → Stand → Stand
joined v w = record v { parts = v.parts + w.parts }

-- the view of a seat that was joined into another: no part, and no place
abbrev pub spent : Stand
spent = stand 0 [] Nothing

module _ {V : Type 0} where
  -- where the word was 0, the seat has the place now, whose slot is at home with a value; else nothing changed
  abbrev pub Claimed : Step (Option V) → Sitter V → ℕ → Sitter V → Type 0
  Claimed step me found new = (found ≡ 0 → new ≡ with_in_hand (Full step.word) me.0) × (found ≢ 0 → new ≡ me)

  -- the slot is out with the seat, with a value that fits the place
  abbrev pub Lifted : (V → ℕ → Type 0) → Step (Option V) → Sitter V → ℕ → Sitter V → Type 0
  Lifted fits step me found new = (x : V) × fits x step.word × (new ≡ with_out step.word (Some x) me.0)

  -- the slot is at home and empty, and the place is taken
  abbrev pub Emptied : Step (Option V) → Sitter V → ℕ → Sitter V → Type 0
  Emptied step me found new = new ≡ with_in_hand Nothing (with_taken step.word me.0)

  -- the empty slot of a taken place is out with the seat
  abbrev pub Opened : Step (Option V) → Sitter V → ℕ → Sitter V → Type 0
  Opened step me found new = new ≡ with_out step.word None (without_taken step.word me.0)

  -- the slot is at home with a value
  abbrev pub Filled : Step (Option V) → Sitter V → ℕ → Sitter V → Type 0
  Filled step me found new = new ≡ with_in_hand (Full step.word) me.0

  -- the seat does not have the place any more
  abbrev pub Left : Step (Option V) → Sitter V → ℕ → Sitter V → Type 0
  Left step me found new = new ≡ with_in_hand Nothing me.0
