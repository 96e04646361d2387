-- How live receives are kept: each in a slot, whose place stands under its number. No public clause cites this module.
use Rattle.std.specs.Prelude.{◌≡◌, ℕ, ◌+◌, List, length, filter, find, Option, Some, is_none, option_map}
use Rattle.std.specs.List.{filter_map}
use Rattle.rdm_num.specs.declared.numbers.Life.{Life}
use Rattle.rdm_num.specs.declared.numbers.MsgNo.{MsgNo}
use Rattle.rdm_num.specs.declared.numbers.OpId.{OpId}
use Rattle.rdm_lists.specs.Lists.{Member}
use Rattle.rdm_pool.specs.Numbered.{Numbered}
use Rattle.rdm_slots.specs.Places.{Slots, value_at, held}
use Rattle.rdm_matched.specs.Matches.{Matches, receive_at}
use Rattle.rdm_receives.specs.View.{ReceiveView, IsReceive}
use Rattle.rdm_live.specs.View.{takes, MessagesOnce}

-- the receives that stand at the places under the numbers
abbrev pub receives_at : List (ℕ × ℕ) → Slots ReceiveView → List ReceiveView
receives_at entries slots = filter_map (λ (e : ℕ × ℕ). value_at slots e.1) entries

-- the receive of each entry stands at its place, under its number
abbrev pub Stands : Slots ReceiveView → ℕ × ℕ → Type 0
Stands slots e = (r : ReceiveView) × (value_at slots e.1 ≡ Some r) × (r.number.0 ≡ e.0)

-- the number of the receive of a message
abbrev pub of_message_number : List ReceiveView → Life → MsgNo → Option OpId
of_message_number rs source number = option_map (λ (r : ReceiveView). r.number) (find (takes source number) rs)

-- how they are kept: each entry has a receive and no place has two, no other receive stands in a slot, there is a slot for each
-- that may live, the map has the receive of each message that is taken and no other, and it has room for the message of each
-- receive that waits and of each for which room was made
pub record IsKept (places : Numbered ℕ) (slots : Slots ReceiveView) (matched : Matches) (room : ℕ) : Type 0 where
  pub stand : (e : ℕ × ℕ) → Member e places.list → Stands slots e
  pub apart : (d e : ℕ × ℕ) → Member d places.list → Member e places.list → d.1 ≡ e.1 → d ≡ e
  pub all : held slots ≡ length places.list
  pub enough : length slots.places ≡ places.size
  pub each : (r : ReceiveView) → Member r (receives_at places.list slots) → IsReceive r
  pub known : (source : Life) (number : MsgNo)
      → receive_at matched source number ≡ of_message_number (receives_at places.list slots) source number
  pub once : MessagesOnce (receives_at places.list slots)
  pub rooms : matched.room ≡ room + length (filter (λ (r : ReceiveView). is_none r.message) (receives_at places.list slots))
