-- The early messages that are held, beside those that an endpoint's record keeps.
use Rattle.std.specs.Prelude.{◌≡◌, ℕ, Bool, true, if◌then◌else◌, Option, Some, None, length, slice_get, unwrap_or}
use Rattle.std.specs.FinMap as map
use Rattle.rdm_num.specs.declared.numbers.Life.{Life}
use Rattle.rdm_num.specs.declared.numbers.MsgNo.{MsgNo}
use Rattle.rdm_window.specs.Message.{Message}
use Rattle.rdm_window.specs.Early.{Held, message_at, is_of_life}
use Rattle.rdm_life.specs.Kept.{Kept, EarlyMessage}

-- the place is missing, or outside
abbrev pub is_missing : Message → ℕ → Bool
is_missing m place = unwrap_or (slice_get m.gaps.places place) true

-- the byte at a place, if it came
abbrev pub came_of : Message → ℕ → Option ℕ
came_of m place = if is_missing m place then None else slice_get m.bytes place

-- the message as a record keeps it
abbrev pub early_of_message : Message → EarlyMessage
early_of_message m = record { head = m.head; came = came_of m; first_part = m.first_part }

-- It is the record's message: it has the same head and first part, and at each place the same byte or none; and it has a byte
-- for each place.
pub record IsEarly (m : Message) (e : EarlyMessage) : Type 0 where
  pub head : e.head ≡ (early_of_message m).head
  pub first_part : e.first_part ≡ (early_of_message m).first_part
  pub came : (place : ℕ) → e.came place ≡ (early_of_message m).came place
  pub whole : length m.bytes ≡ length m.gaps.places

-- a message is held exactly where the record has one, and is that one
abbrev pub AreEarly : Option Message → Option EarlyMessage → Type 0
AreEarly None None = Unit {0}
AreEarly (Some m) (Some e) = IsEarly m e
AreEarly _ _ = ⊥

-- how many messages of a life are held
abbrev pub count_of : Held → Life → ℕ
count_of h life = map.len (map.retain_keys h.messages (is_of_life life))

-- What is held is what a record keeps of early messages: each message, how many each life has, and how many there are.
pub record IsHeldAs (h : Held) (early : Life → ℕ → Option EarlyMessage) (early_of : Life → ℕ) (early_count : ℕ) : Type 0 where
  pub messages : (life : Life) (number : MsgNo) → AreEarly (message_at h life number) (early life number.0)
  pub of_lives : (life : Life) → early_of life ≡ count_of h life
  pub count : early_count ≡ map.len h.messages

-- the same of all that is kept
abbrev pub IsHeldIn : Held → Kept → Type 0
IsHeldIn h v = IsHeldAs h v.early v.early_of v.early_count
