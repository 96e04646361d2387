-- The messages that were matched, each with the receive that took it.
use Rattle.std.specs.Prelude.{ℕ, ◌+◌, ◌-◌, Option, refl}
use Rattle.std.specs.Coded.{Coded, code_by, coded×, coded_ℕ}
use Rattle.std.specs.FinMap as map
use Rattle.rdm_num.specs.declared.numbers.Life.{Life}
use Rattle.rdm_num.specs.declared.numbers.MsgNo.{MsgNo}
use Rattle.rdm_num.specs.declared.numbers.OpId.{OpId}
use Rattle.rdm_window.specs.Early.{message_order, key_of}
use Rattle.rdm_window.specs.Codes.{op_code}

-- for how many more messages there is room, and the receive of each message that was matched, under its life and number
pub record Matches : Type 0 where
  pub room : ℕ
  pub messages : map.FinMap message_order OpId

-- stored as the pair of its fields
abbrev pub matches_code : Coded Matches
matches_code =
    code_by
    (ℕ × map.FinMap message_order OpId)
    (coded× coded_ℕ (map.code (coded× (coded× coded_ℕ coded_ℕ) coded_ℕ) op_code))
    (λ m. (m.room, m.messages))
    (λ p. record { room = p.0; messages = p.1 })
    (λ _. refl)

-- no message was matched
abbrev pub nothing_matched : Matches
nothing_matched = record { room = 0; messages = map.empty }

-- the receive that took the message of a life with that number, where one did
abbrev pub receive_at : Matches → Life → MsgNo → Option OpId
receive_at m life number = map.get m.messages (key_of life number)

-- the receive took the message of a life with that number
abbrev pub with_match : Matches → Life → MsgNo → OpId → Matches
with_match m life number recv = record m { messages = map.insert m.messages (key_of life number) recv }

-- no receive has the message of a life with that number any more
abbrev pub without_match : Matches → Life → MsgNo → Matches
without_match m life number = record m { messages = map.remove m.messages (key_of life number) }

-- one more message can be matched without memory
abbrev pub with_room : Matches → Matches
with_room m = record m { room = m.room + 1 }

-- a reservation is spent or given back
abbrev pub with_spent : Matches → Matches
with_spent m = record m { room = m.room - 1 }
