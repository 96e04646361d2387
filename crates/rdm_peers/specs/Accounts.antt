-- What is kept of one life.
use Rattle.std.specs.Prelude.{ℕ, Bool, false, not, List}
use Rattle.rdm_peer.specs.Account.{Account, fresh, learnt, after_number}
use Rattle.rdm_window.specs.Window as window
use Rattle.rdm_window.specs.Window.{Hearing, none_heard, after_hear}

-- what is known of a life and owed to it, and which of its messages were heard
pub record Acquaintance : Type 0 where
  pub peer : Account
  pub hearing : Hearing

-- a life of which nothing is known, whose messages are numbered from that number on, as those to it
abbrev pub stranger : (first : ℕ) → Acquaintance
stranger first = record { peer = fresh first; hearing = none_heard first }

-- the life was greeted
abbrev pub is_met : Acquaintance → Bool
is_met a = not a.peer.owes

-- the life is greeted: no handshake is owed to it any more
abbrev pub greeted : Acquaintance → Acquaintance
greeted a = record a { peer = record (a.peer) { owes = false } }

-- the life told words of its features
abbrev pub told : List ℕ → Acquaintance → Acquaintance
told words a = record a { peer = learnt a.peer words }

-- the next number was given to a message to the life, if one was left
abbrev pub numbered : Acquaintance → Acquaintance
numbered a = record a { peer = after_number a.peer }

-- one more message of the life can be heard without memory
abbrev pub with_room : Acquaintance → Acquaintance
with_room a = record a { hearing = window.with_room a.hearing }

-- a reservation is given back
abbrev pub with_spent : Acquaintance → Acquaintance
with_spent a = record a { hearing = window.with_spent a.hearing }

-- a message of the life was heard, by which the next one to enter rose; a reservation is spent
abbrev pub with_heard : (number risen : ℕ) → Acquaintance → Acquaintance
with_heard number risen a = record a { hearing = window.with_spent (after_hear a.hearing number risen) }
