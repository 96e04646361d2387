-- Messages are taken one after another, while there is room.
use Rattle.std.proofs.Common.{◌≡◌, ℕ, suc, ◌+◌, ◌-◌, ◌<◌, ◌≤◌, List, [], ◌∷◌, ◌++◌, map, sym, append_assoc, append-nil}
use Rattle.std.proofs.lemmas.Bool.{le-leb, lt-leb}
use Rattle.std.specs.List.{range_with_len}
use Rattle.rdm_generate.specs.declared.draws.Message.{Message}
use Rattle.rdm_generate.specs.Draws.{drawn_message, within}

-- the messages from a number on, before the first one that leaves the room
abbrev pub from_number : (seed number count room : ℕ) → List Message
from_number seed k count room = within room (map (drawn_message seed) (range_with_len k count))

-- a message that there is room for is taken
pub one_taken : (taken : List Message) (seed k count left room : ℕ) → (drawn_message seed k).len ≤ room → count ≡ suc left
    → (taken ++ drawn_message seed k ∷ []) ++ from_number seed (k + 1) left (room - (drawn_message seed k).len) ≡ taken ++ from_number seed k count room
one_taken taken seed k count left room fits is = rw (is, le-leb (drawn_message seed k).len room fits) (append_assoc taken (drawn_message seed k ∷ []) _)

-- the first message that there is no room for is the end
pub none_taken : (taken : List Message) (seed k count left room : ℕ) → room < (drawn_message seed k).len → count ≡ suc left
    → taken ≡ taken ++ from_number seed k count room
none_taken taken seed k count left room full is = rw (is, lt-leb (drawn_message seed k).len room full) (sym (append-nil taken))
