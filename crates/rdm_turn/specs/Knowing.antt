-- What the view of a seat says of each place.
use Rattle.std.specs.Prelude.{ℕ, List, Bool, not, if◌then◌else◌, ◌==◌, filter}
use Rattle.std.specs.List.{list_any}
use Rattle.rdm_turn.specs.declared.rule.Hand.{Hand}
use Rattle.rdm_turn.specs.declared.rule.Hand.TheVariants.{Nothing, Full, Out}
use Rattle.rdm_turn.specs.declared.rule.Stand.{Stand}

-- the seat does not have the place; or it has it, and the slot is at home and empty, at home with a value, or out with the seat
pub data Stage : Type 0 where
  not_mine : Stage
  empty : Stage
  full : Stage
  out : Stage

-- the place is among these
abbrev pub is_among : ℕ → List ℕ → Bool
is_among i places = list_any (λ k. k == i) places

-- these places but for one
abbrev pub without : ℕ → List ℕ → List ℕ
without i places = filter (λ k. not (k == i)) places

-- the view with so many parts, these taken places, and this place in hand
abbrev pub stand : ℕ → List ℕ → Hand → Stand
stand parts taken hand = record { parts = parts; taken = taken; hand = hand }

-- what is said of a place that is not in hand: the slot of a taken place is at home and empty
abbrev pub at_rest : List ℕ → ℕ → Stage
at_rest taken i = if is_among i taken then empty else not_mine

-- what is said of a place: of the one in hand what the hand says, and of the others as at rest
abbrev pub said_by : Hand → List ℕ → ℕ → Stage
said_by Nothing taken i = at_rest taken i
said_by (Full k) taken i = if k == i then full else at_rest taken i
said_by (Out k) taken i = if k == i then out else at_rest taken i

-- what a view says of a place
abbrev pub says : Stand → ℕ → Stage
says v i = said_by v.hand v.taken i
