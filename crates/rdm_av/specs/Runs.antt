-- What superseded lives are: those that were current once and are not now.
use Rattle.std.specs.Prelude.{◌≡◌, Bool, false, not, ◌&&◌, ◌||◌, List, [], ◌∷◌, None}
use Rattle.rdm_num.specs.Lives.{is_life}
use Rattle.rdm_num.specs.declared.numbers.Life.{Life}
use Rattle.rdm_av.specs.Lives.{Lives, no_lives, current_life, is_superseded, with_current, with_room, with_spent, insert_answer, reserved_answer, after_insert}

-- a call that had its memory
pub data Call : Type 0 where
  Insert : Life → Call
  Implicit : Life → Call
  Reserve : Call
  InsertReserved : Life → Call
  ImplicitReserved : Life → Call

-- the lives after calls, the newest call first
unfoldable pub after_calls : List Call → Lives
after_calls [] = no_lives
after_calls (Insert l ∷ before) = after_insert (after_calls before) l (insert_answer (after_calls before) l)
after_calls (Implicit l ∷ before) = with_current (after_calls before) l
after_calls (Reserve ∷ before) = with_room (after_calls before)
after_calls (InsertReserved l ∷ before) = with_spent (after_insert (after_calls before) l (reserved_answer (after_calls before) l))
after_calls (ImplicitReserved l ∷ before) = with_spent (with_current (after_calls before) l)

-- each implicit life was of a port that had no current life
abbrev pub AreCalls : List Call → Type 0
AreCalls [] = Unit {0}
AreCalls (Insert l ∷ before) = AreCalls before
AreCalls (Implicit l ∷ before) = AreCalls before × (current_life (after_calls before) l.port ≡ None)
AreCalls (Reserve ∷ before) = AreCalls before
AreCalls (InsertReserved l ∷ before) = AreCalls before
AreCalls (ImplicitReserved l ∷ before) = AreCalls before × (current_life (after_calls before) l.port ≡ None)

-- the life is the current one of its port after the calls
unfoldable pub is_current : List Call → Life → Bool
is_current calls l = is_life (current_life (after_calls calls) l.port) l

-- the life was the current one of its port after some of the calls
unfoldable pub was_current : List Call → Life → Bool
was_current [] l = false
was_current (call ∷ before) l = was_current before l || is_current (call ∷ before) l

-- a life is superseded exactly where it was current once and is not now
abbrev pub SupersededOnceCurrent : Type 0
SupersededOnceCurrent = (calls : List Call) (l : Life) → AreCalls calls → is_superseded (after_calls calls) l ≡ (was_current calls l && not (is_current calls l))
