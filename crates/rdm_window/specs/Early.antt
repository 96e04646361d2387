-- Messages that were heard and are not matched yet.
use Rattle.std.specs.Prelude.{◌≡◌, ℕ, Bool, not, ◌&&◌, ◌==◌, if◌then◌else◌, Option, Some, None, Result, Ok, Err, IsSome, option_map}
use Rattle.std.specs.Ordering.{nat_cmp, ordering_then}
use Rattle.std.specs.declared.cmp.Ordering.{Ordering}
use Rattle.std.specs.FinMap as map
use Rattle.rdm_num.specs.declared.numbers.Life.{Life}
use Rattle.rdm_num.specs.declared.numbers.MsgNo.{MsgNo}
use Rattle.rdm_window.specs.Message.{Message}
use Rattle.rdm_window.specs.declared.early.EarlyRefused.{EarlyRefused}

-- a life's port and identifier, and a message number
abbrev pub Key : Type 0
Key = (ℕ × ℕ) × ℕ

-- by port, then by identifier, then by message number
abbrev pub message_order : Key → Key → Ordering
message_order a b = ordering_then (ordering_then (nat_cmp a.0.0 b.0.0) (nat_cmp a.0.1 b.0.1)) (nat_cmp a.1 b.1)

-- how many messages have a place, and the messages that are held, each under its life and number
pub record Held : Type 0 where
  pub size : ℕ
  pub messages : map.FinMap message_order Message

-- what a message is held under
abbrev pub key_of : Life → MsgNo → Key
key_of life number = ((life.port.0, life.connid.0), number.0)

-- nothing is held
abbrev pub none_held : ℕ → Held
none_held size = record { size = size; messages = map.empty }

-- the message of a life with that number, where it is held
abbrev pub message_at : Held → Life → MsgNo → Option Message
message_at held life number = map.get held.messages (key_of life number)

-- as many messages are held as have a place
abbrev pub is_full : Held → Bool
is_full held = map.len held.messages == held.size

-- the message is held, in the place of what was held under its life and number
abbrev pub with_message : Held → Life → MsgNo → Message → Held
with_message held life number message = record held { messages = map.insert held.messages (key_of life number) message }

-- the message is held where it was not refused
abbrev pub after_hold : Held → Life → MsgNo → Message → Result (Unit {0}) EarlyRefused → Held
after_hold held life number message (Ok done) = with_message held life number message
after_hold held life number message (Err why) = held

-- the message is held in the place of the one that was held, where there was one
unfoldable pub put_back : Held → Life → MsgNo → Option Message → Held
put_back held life number None = held
put_back held life number (Some message) = with_message held life number message

-- the message that is held is changed so
abbrev pub changed : Held → Life → MsgNo → (Message → Message) → Held
changed held life number change = put_back held life number (option_map change (message_at held life number))

-- the message is not held any more
abbrev pub without_message : Held → Life → MsgNo → Held
without_message held life number = record held { messages = map.remove held.messages (key_of life number) }

-- what is held there is a message of that life
abbrev pub is_of_life : Life → Key → Bool
is_of_life life key = (key.0.0 == life.port.0) && (key.0.1 == life.connid.0)

-- no message of the life is held any more
abbrev pub without_life : Held → Life → Held
without_life held life = record held { messages = map.retain_keys held.messages (λ key. not (is_of_life life key)) }

-- the number is that of a message of the life that is held; none where no message of the life is
abbrev pub IsHeldOf : Held → Life → Option MsgNo → Type 0
IsHeldOf held life None = without_life held life ≡ held
IsHeldOf held life (Some number) = IsSome (message_at held life number)
