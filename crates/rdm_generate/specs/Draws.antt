-- The messages of a generated job.
use Rattle.std.specs.Prelude.{ℕ, zero, suc, ◌+◌, ◌-◌, ◌*◌, ◌/◌, ◌%◌, ◌^◌, ◌==◌, nat_le, List, [], ◌∷◌, map, if◌then◌else◌}
use Rattle.std.specs.List.{range_with_len}
use Rattle.rdm_generate.specs.declared.draws.Message.{Message}

-- the generator of numbers keeps a number below 2^64, and a draw moves it
abbrev pub next_state : ℕ → ℕ
next_state x = (x * 6364136223846793005 + 1442695040888963407) % 2 ^ 64

-- a draw gives the high bits
abbrev pub drawn : (state : ℕ) → ℕ
drawn x = x / 2 ^ 33

-- the state after so many draws from a seed
unfoldable pub state_after : (seed draws : ℕ) → ℕ
state_after seed zero = seed
state_after seed (suc n) = next_state (state_after seed n)

-- the length of a message: sender and receiver say in which of four ranges, and the draw says where in it
abbrev pub length_of : (from to draw : ℕ) → ℕ
length_of from to draw =
    let range = (from / 2 + to) % 4 in
    if range == 0 then draw % 800
    else if range == 1 then 1025 + draw % 3000
    else if range == 2 then 5000 + draw % 10000
    else 16384 + draw % 20000

-- the message of a number: senders take turns, and each sends to the receivers in turn
abbrev pub message_of : (number draw : ℕ) → Message
message_of k draw = record { number = k; from = k % 8; to = k / 8 % 8; len = length_of (k % 8) (k / 8 % 8) draw }

-- message k has draw k, counted from 0
abbrev pub drawn_message : (seed number : ℕ) → Message
drawn_message seed k = message_of k (drawn (state_after seed (suc k)))

-- the messages before the first one that leaves the room
abbrev pub within : (room : ℕ) → List Message → List Message
within room [] = []
within room (m ∷ ms) = if nat_le m.len room then m ∷ within (room - m.len) ms else []

-- the first messages, at most so many, whose lengths together are at most a size
unfoldable pub first_messages : (count seed size : ℕ) → List Message
first_messages count seed size = within size (map (drawn_message seed) (range_with_len 0 count))

-- the messages of a job
unfoldable pub messages_of : (seed size : ℕ) → List Message
messages_of seed size = first_messages 10000 seed size
