-- What an endpoint keeps of the deeds of its life.
use Rattle.std.specs.Prelude.{ℕ, Bool, false, ◌==◌, if◌then◌else◌, List, [], map, find, Option, None}
use Rattle.rdm_num.specs.Lives.{same_life}
use Rattle.rdm_num.specs.declared.numbers.Life.{Life}
use Rattle.rdm_num.specs.declared.head.Head.{Head}
use Rattle.rdm_num.specs.declared.completion.Completion.{Completion}
use Rattle.rdm_match.specs.declared.PostedRecv.{PostedRecv}
use Rattle.rdm_match.specs.declared.Arrived.{Arrived}
use Rattle.rdm_model.specs.Beginnings.{Own}
use Rattle.rdm_model.specs.Matches.{Receive}
use Rattle.rdm_model.specs.Replies.{Reply}
use Rattle.rdm_model.specs.Sends.{Sent}

-- of another life: whether it was met, what is known of its features, how many messages went to it, which of its messages
-- were heard of, and the least number that was not
pub record Peer : Type 0 where
  pub met : Bool
  pub known : Option ℕ
  pub messages : ℕ
  pub heard : ℕ → Bool
  pub next : ℕ

-- a message that was heard of and waits, for its receive or for those before it: what its packets say of it, the byte at each
-- place that came, and how many the packet brought that opened a message to be granted
pub record EarlyMessage : Type 0 where
  pub head : Head
  pub came : ℕ → Option ℕ
  pub first_part : ℕ

-- a live send: how many of its openings were pushed; how many bytes open it or were pushed since, how many it may push so, and
-- the receive that its grants name; which places it was asked for, and how many answers were not pushed
pub record LiveSend : Type 0 where
  pub sent : Sent
  pub opened : ℕ
  pub done : ℕ
  pub allowed : ℕ
  pub granted_by : Option ℕ
  pub was_asked : ℕ → Bool
  pub owes : ℕ

-- the message that a receive was matched to: its life and number, its head, which places came, and how many bytes are granted
pub record Matched : Type 0 where
  pub source : Life
  pub number : ℕ
  pub head : Head
  pub came : ℕ → Bool
  pub granted : ℕ

-- a live receive: the byte at each place of its range, and its message once it was matched
pub record LiveReceive : Type 0 where
  pub receive : Receive
  pub part : ℕ → ℕ
  pub matched : Option Matched

-- all that is kept
pub record Kept : Type 0 where
  pub own : Own
  -- how many regions there are, how long each is, and the byte at each place that is not out with a live receive
  pub region_count : ℕ
  pub region_size : (region : ℕ) → ℕ
  pub home : (region place : ℕ) → Option ℕ
  -- the current life of each port, and the lives that were current and are not now
  pub current : (port : ℕ) → Option Life
  pub superseded : Life → Bool
  pub peers : Life → Peer
  -- receives without a message, and messages without a receive, each in order
  pub posted : List PostedRecv
  pub arrived : List Arrived
  -- the early messages by life and number, how many each life has, and how many there are
  pub early : Life → ℕ → Option EarlyMessage
  pub early_of : Life → ℕ
  pub early_count : ℕ
  -- live operations by number
  pub sends : List LiveSend
  pub receives : List LiveReceive
  -- what goes out ahead of the sends, in order
  pub owed : List Reply
  -- what was not polled, in order
  pub completions : List Completion
  -- how many sends and receives were accepted, and how many completions were polled
  pub send_count : ℕ
  pub receive_count : ℕ
  pub poll_count : ℕ

-- a life of which nothing is known, whose messages are numbered from the first on
abbrev pub stranger : (first : ℕ) → Peer
stranger first = record { met = false; known = None; messages = 0; heard = λ number. false; next = first }

-- before any deed
abbrev pub nothing_kept : Own → Kept
nothing_kept own =
    record {
      own = own;
      region_count = 0;
      region_size = λ region. 0;
      home = λ region place. None;
      current = λ port. None;
      superseded = λ life. false;
      peers = λ life. stranger own.limits.first;
      posted = [];
      arrived = [];
      early = λ life number. None;
      early_of = λ life. 0;
      early_count = 0;
      sends = [];
      receives = [];
      owed = [];
      completions = [];
      send_count = 0;
      receive_count = 0;
      poll_count = 0;
    }

-- ---- changes

-- what is kept of a life is changed so
abbrev pub with_peer : Life → (Peer → Peer) → Kept → Kept
with_peer life change v = record v { peers = λ other. if same_life other life then change (v.peers other) else v.peers other }

-- the elements that pass are changed so
unfoldable pub change_where : {A : Type 0} → (A → Bool) → (A → A) → List A → List A
change_where test change xs = map (λ x. if test x then change x else x) xs

-- the send has that number
abbrev pub is_send : (number : ℕ) → LiveSend → Bool
is_send number s = s.sent.number == number

-- the receive has that number
abbrev pub is_receive : (number : ℕ) → LiveReceive → Bool
is_receive number r = r.receive.number == number

-- the live send of that number
abbrev pub send_numbered : Kept → ℕ → Option LiveSend
send_numbered v number = find (is_send number) v.sends

-- the live receive of that number
abbrev pub receive_numbered : Kept → ℕ → Option LiveReceive
receive_numbered v number = find (is_receive number) v.receives
