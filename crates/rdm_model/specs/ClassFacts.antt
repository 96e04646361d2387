-- What the class of a datagram depends on. A scene tells it; so does whatever keeps it.
use Rattle.std.specs.Prelude.{ℕ, ◌+◌, ◌-◌, Bool, true, false, not, ◌&&◌, ◌||◌, ◌==◌, nat_lt, if◌then◌else◌, length, Option, Some, None}
use Rattle.std.specs.List.{list_any}
use Rattle.rdm_num.specs.Pieces.{is_missing, piece_bytes}
use Rattle.rdm_num.specs.Lives.{same_life}
use Rattle.rdm_num.specs.declared.numbers.Life.{Life}
use Rattle.rdm_num.specs.declared.numbers.Connid.{Connid}
use Rattle.rdm_num.specs.declared.head.Head.{Head}
use Rattle.rdm_pkt.specs.Openings.{openings}
use Rattle.rdm_wire.specs.declared.ReadAsk.{ReadAsk}
use Rattle.rdm_match.specs.Matcher.{Pair}
use Rattle.rdm_model.specs.Currents.{current}
use Rattle.rdm_model.specs.Heard.{heard_head, is_heard}
use Rattle.rdm_model.specs.Parts.{carried_pieces}
use Rattle.rdm_model.specs.Receives.{RecvEnd, Filled, recv_ends}
use Rattle.rdm_model.specs.Sends.{Sent, known_word}
use Rattle.rdm_model.specs.Grants.{Grant, first_part, granted_bytes, grants, grant_bytes}
use Rattle.rdm_model.specs.Reads.{asks_of, asked_bytes}
use Rattle.rdm_model.specs.Replies.{Reply}
use Rattle.rdm_model.specs.Dues.{pieces_in, is_pushed, progress}
use Rattle.rdm_model.specs.Scenes.{Scene}
use Rattle.rdm_model.specs.Targets.{live_send, live_message, live_pair, read_from, is_good_ask, is_long_send, is_read_send, is_confirmed_send, is_long_shape, is_read_shape, has_shape}

-- of a life. A send is named by the life that it goes to and its number, or that of its message; a receive by the life of its message and
-- its number
pub record ClassFacts : Type 0 where
  -- the open life, and the number of the first message from any life
  pub now : Option Connid
  pub first : ℕ
  -- the current life of a port; what is known of a life's features
  pub current : (port : ℕ) → Option Life
  pub known : Life → Option ℕ
  -- the head of a message that was heard of, as long as no receive has completed with it; whether a message was heard of
  pub head : Life → ℕ → Option Head
  pub is_heard : Life → ℕ → Bool
  -- whether some bytes of a message have come already or lie outside it
  pub came_in_part : Life → (number offset len : ℕ) → Bool
  -- live sends: whether one takes grants, an end, or a receipt
  pub takes_grants : Life → (send : ℕ) → Bool
  pub takes_end : Life → (send : ℕ) → Bool
  pub takes_receipt : Life → (number : ℕ) → Bool
  -- whether one may be asked for that; and whether a grant, an end or a receipt comes too early or is wrong
  pub may_be_asked : Life → ReadAsk → Bool
  pub is_wrong_grant : Life → (send recv size : ℕ) → Bool
  pub is_early_end : Life → (send : ℕ) → Bool
  pub is_early_receipt : Life → (number : ℕ) → Bool
  -- live receives: whether one takes granted bytes or read ones; whether bytes to that place pass what is granted, and whether some
  -- of them have come already or lie outside the message
  pub takes_granted : Life → (recv : ℕ) → Bool
  pub takes_read : Life → (recv : ℕ) → Bool
  pub passes_grants : Life → (recv end' : ℕ) → Bool
  pub came_in_part_of : Life → (recv offset len : ℕ) → Bool

-- a receive took that message
unfoldable pub is_filled_end : Life → ℕ → RecvEnd → Bool
is_filled_end source n (Filled p) = same_life p.message.life source && (p.message.no.0 == n)
is_filled_end source n _ = false

-- a receive of the message has completed
unfoldable pub is_received : Scene → Life → ℕ → Bool
is_received s source n = list_any (is_filled_end source n) (recv_ends s.own.limits.first s.ms.head s.log)

-- the head of a message that was heard of, as long as no receive has completed with it
unfoldable pub awaited_head : Scene → Life → ℕ → Option Head
awaited_head s source n = if is_received s source n then None else heard_head s.log source n

-- granted bytes that pass what the first part and the windows allow
unfoldable pub passes_grants : Scene → (end' : ℕ) → Option Pair → Bool
passes_grants s end' None = false
passes_grants s end' (Some p) =
    nat_lt (first_part s.log p.message.life p.message.no.0 + granted_bytes s.own.limits s.ms.head s.log p) end'

-- how many bytes of a send its first part and its grants allow
unfoldable pub allowed_bytes : Scene → Sent → ℕ
allowed_bytes s t = piece_bytes (pieces_in (openings s.own.limits t.message t.kind)) + grant_bytes (grants s.log t.to t.number)

-- a grant of more than what is not granted, or for another receive than before
unfoldable pub is_wrong_grant : Scene → (recv size : ℕ) → Option Sent → Bool
is_wrong_grant s recv size None = false
is_wrong_grant s recv size (Some t) =
    nat_lt (length t.message.bytes - allowed_bytes s t) size || list_any (λ (g : Grant). not (g.recv == recv)) (grants s.log t.to t.number)

-- the number is there, and is that one
unfoldable pub is_number : ℕ → Option ℕ → Bool
is_number n None = false
is_number n (Some m) = m == n

-- an end before all was asked for and every answer was pushed
unfoldable pub is_early_end : Scene → Option Sent → Bool
is_early_end s None = false
is_early_end s (Some t) =
    not (asked_bytes (asks_of s.log t.to t.number) + read_from t.kind == length t.message.bytes)
    || list_any (λ (r : Reply). same_life r.to t.to && is_number t.number r.gives) (progress s.own s.ms s.log).replies

-- a receipt before the whole message was pushed
unfoldable pub is_early_receipt : Scene → Option Sent → Bool
is_early_receipt s None = false
is_early_receipt s (Some t) = not (is_pushed t ((progress s.own s.ms s.log).packets t.number))

-- some of these bytes of a message have come already or lie outside it
unfoldable pub came_in_part : Scene → Life → (number offset len : ℕ) → Bool
came_in_part s source n offset len =
    not (is_missing (carried_pieces s.own.limits.first s.ms.head s.log source n) (s.ms.head source n).length offset len)

-- the same of the message of a pair
unfoldable pub came_in_part_of : Scene → (offset len : ℕ) → Option Pair → Bool
came_in_part_of s offset len None = false
came_in_part_of s offset len (Some p) = came_in_part s p.message.life p.message.no.0 offset len

-- the facts of the open life
abbrev pub class_facts : Scene → ClassFacts
class_facts s =
    record {
      now = s.now;
      first = s.own.limits.first;
      current = current s.log;
      known = known_word s.log;
      head = λ source number. awaited_head s source number;
      is_heard = λ source number. is_heard s.log source number;
      came_in_part = λ source number offset len. came_in_part s source number offset len;
      takes_grants = λ to send. is_long_send (live_send s to send);
      takes_end = λ to send. is_read_send (live_send s to send);
      takes_receipt = λ to number. is_confirmed_send (live_message s to number);
      may_be_asked = λ to ask. is_good_ask s to ask (live_send s to ask.send_id.0);
      is_wrong_grant = λ to send recv size. is_wrong_grant s recv size (live_send s to send);
      is_early_end = λ to send. is_early_end s (live_send s to send);
      is_early_receipt = λ to number. is_early_receipt s (live_message s to number);
      takes_granted = λ source recv. has_shape s is_long_shape (live_pair s source recv);
      takes_read = λ source recv. has_shape s is_read_shape (live_pair s source recv);
      passes_grants = λ source recv end'. passes_grants s end' (live_pair s source recv);
      came_in_part_of = λ source recv offset len. came_in_part_of s offset len (live_pair s source recv);
    }
