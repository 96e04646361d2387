-- What is known of a life and owed to it, and the numbers of the messages that go to it.
use Rattle.std.specs.Prelude.{ℕ, ◌+◌, ◌/◌, ◌%◌, ◌^◌, Bool, true, nat_lt, ◌==◌, if◌then◌else◌, List, Option, Some, None, slice_get}
use Rattle.rdm_num.specs.declared.numbers.MsgNo.{MsgNo}

-- whether a handshake is owed, the first word that was learnt, and the next message number
pub record Account : Type 0 where
  pub owes : Bool
  pub known : Option ℕ
  pub next : ℕ

-- a life of which nothing is known, whose messages are numbered from that number on
abbrev pub fresh : ℕ → Account
fresh first = record { owes = true; known = None; next = first }

-- the first word that was learnt stays
unfoldable pub known_after : Option ℕ → List ℕ → Option ℕ
known_after None words = slice_get words 0
known_after (Some word) words = Some word

-- the account after words came
abbrev pub learnt : Account → List ℕ → Account
learnt a words = record a { known = known_after a.known words }

-- nothing is known, or the known word asks for the raw address by its bit 2
unfoldable pub wants_raw : Option ℕ → Bool
wants_raw None = true
wants_raw (Some word) = (word / 2 ^ 2) % 2 == 1

-- a number of 32 bits is left
abbrev pub has_number : Account → Bool
has_number a = nat_lt a.next (2 ^ 32)

-- the next number, if one is left
abbrev pub number_given : Account → Option MsgNo
number_given a = if has_number a then Some (record { 0 = a.next }) else None

-- the account after that number was given
abbrev pub after_number : Account → Account
after_number a = if has_number a then record a { next = a.next + 1 } else a
