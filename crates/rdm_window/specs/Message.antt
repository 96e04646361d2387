-- A message that was heard and is not matched yet, as its bytes come.
use Rattle.std.specs.Prelude.{ℕ, ◌+◌, ◌-◌, ◌++◌, List, length, take, drop, replicate}
use Rattle.rdm_num.specs.declared.head.Head.{Head}
use Rattle.rdm_window.specs.declared.message.Opening.{Opening}
use Rattle.rdm_gaps.specs.Places.{Missing, all_missing, with_taken, AreMissing}

-- what the packets say of a message, how many bytes the packet brought that opened a message to be granted, its bytes with 0
-- for each that did not come, and which of them did not come
pub record Message : Type 0 where
  pub head : Head
  pub first_part : ℕ
  pub bytes : List ℕ
  pub gaps : Missing

-- a message of which no byte came
abbrev pub opened : Opening → Message
opened o = record { head = o.head; first_part = o.first_part; bytes = replicate o.len 0; gaps = all_missing o.len }

-- the range lies in the message, and no byte of it came
abbrev pub Awaits : ℕ → ℕ → Message → Type 0
Awaits at len m = AreMissing at len m.gaps.places

-- the bytes, with others in their place from `at` on
abbrev pub written : List ℕ → ℕ → List ℕ → List ℕ
written old at bytes = take at old ++ (bytes ++ drop (at + length bytes) old)

-- a piece came: its bytes stand from `at` on, and are missing no more
abbrev pub filled : Message → ℕ → List ℕ → Message
filled m at bytes = record m { bytes = written m.bytes at bytes; gaps = with_taken m.gaps at (length bytes) }

-- how many pieces can be added without memory
abbrev pub room : Message → ℕ
room m = m.gaps.spare

-- one more piece can be added without memory
abbrev pub with_room : Message → Message
with_room m = record m { gaps = record (m.gaps) { spare = m.gaps.spare + 1 } }

-- a reservation is spent
abbrev pub with_spent : Message → Message
with_spent m = record m { gaps = record (m.gaps) { spare = m.gaps.spare - 1 } }
