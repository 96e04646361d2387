-- What contracts see of the queues, and of what one port may do with them.
use Rattle.std.specs.Prelude.{◌≡◌, ℕ, ◌+◌, ◌==◌, if◌then◌else◌, Bool, nat_lt, List, [], ◌∷◌, ◌++◌, length, map, drop, replicate, sum_by, Option, None, Some, slice_get, slice_index_or}
use Rattle.atomic_table.specs.Seated.{TableId}
use Rattle.rdm_wire.specs.declared.Datagram.{Datagram}
use Rattle.rdm_wire.specs.Accounts.{Account}
use Rattle.rdm_wire.specs.Flights.{InFlight}
use Rattle.rdm_inbox.specs.declared.post.SenderPost.{SenderPost}
use Rattle.rdm_inbox.specs.declared.post.ReaderPost.{ReaderPost}
use Rattle.rdm_inbox.specs.Senders.{list_at, joined, changed_at}
use Rattle.rdm_inbox.specs.Letters.{with_sent, with_full, IsWhole}
use Rattle.rdm_inbox.specs.Passes.{InboxState, SendState, ReadState, WasFull}

-- the queues in order of their ports, and for how many datagrams each has places
pub record QueuesState : Type 0 where
  pub tables : List InboxState
  pub size : ℕ

-- what one port may do: by each of its senders' passes it sends to one inbox, in order of the inboxes; by the reader's pass it takes from its own
pub record PassesState : Type 0 where
  pub port : ℕ
  pub senders : List SendState
  pub reader : ReadState

-- the names of the queues
abbrev pub names : List InboxState → List TableId
names tables = map (λ t. t.table) tables

-- each queue has that many places
abbrev pub HaveSize : (size : ℕ) → List InboxState → Type 0
HaveSize size tables = (p : ℕ) (t : InboxState) → slice_get tables p ≡ Some t → t.size ≡ size

-- the pass by which a port sends to an inbox
pub record IsSendOf (tables : List InboxState) (port to : ℕ) (s : SendState) : Type 0 where
  pub named : slice_get (names tables) to ≡ Some s.table
  pub from : s.post.from ≡ port
  pub to_port : s.post.port ≡ to
  pub ports : s.post.ports ≡ length tables

-- the pass by which a port takes from its inbox
pub record IsReadOf (tables : List InboxState) (port : ℕ) (r : ReadState) : Type 0 where
  pub named : slice_get tables port ≡ Some (record { table = r.table; size = r.post.size })
  pub own : r.post.port ≡ port
  pub ports : r.post.ports ≡ length tables

-- these are the passes of a port of these queues
pub record ArePassesOf (tables : List InboxState) (v : PassesState) : Type 0 where
  pub each : (to : ℕ) (s : SendState) → slice_get v.senders to ≡ Some s → IsSendOf tables v.port to s
  pub all : length v.senders ≡ length tables
  pub reader : IsReadOf tables v.port v.reader
  pub alone : v.reader.post.known ≡ []

-- these are the passes of all ports of these queues, in order
pub record AreAllPasses (tables : List InboxState) (all : List PassesState) : Type 0 where
  pub each : (port : ℕ) (v : PassesState) → slice_get all port ≡ Some v → ArePassesOf tables v × (v.port ≡ port)
  pub count : length all ≡ length tables

-- what a port sent to an inbox
abbrev pub sent_to : PassesState → ℕ → List Datagram
sent_to v to = list_at (map (λ s. s.post.sent) v.senders) to

-- what a port took from its inbox
abbrev pub taken_by : PassesState → List Datagram
taken_by v = v.reader.post.taken

-- for each port what was sent to it by these passes, and for their own port what was taken
abbrev pub account_of : PassesState → Account
account_of v = record { pushed = sent_to v; fetched = λ p. if p == v.port then taken_by v else [] }

-- how often these passes found an inbox full
abbrev pub fulls_of : PassesState → ℕ
fulls_of v = sum_by (λ s. s.post.fulls) v.senders

-- how often these passes found their own inbox empty
abbrev pub empties_of : PassesState → ℕ
empties_of v = v.reader.post.empties

-- with another knowledge of the pass for one inbox
abbrev pub with_sender_at : (SenderPost → SenderPost) → PassesState → ℕ → PassesState
with_sender_at f v to = record v { senders = changed_at (λ s. record s { post = f s.post }) v.senders to }

-- with another knowledge of the reader's pass
abbrev pub with_reader : (ReaderPost → ReaderPost) → PassesState → PassesState
with_reader f v = record v { reader = record v.reader { post = f v.reader.post } }

-- after a datagram was sent
abbrev pub after_sent : PassesState → Datagram → PassesState
after_sent v d = with_sender_at (λ s. with_sent s d) v d.dst.0

-- after an inbox was found full
abbrev pub after_found_full : PassesState → ℕ → PassesState
after_found_full v to = with_sender_at with_full v to

-- as many datagrams were found in an inbox as there are places, of which those from this port were the last that it sent there
abbrev pub WasFullAt : (size : ℕ) → PassesState → ℕ → Type 0
WasFullAt size v to = (s : SendState) → slice_get v.senders to ≡ Some s → WasFull size s.post

-- one port's own view of the queues
pub record WireState : Type 0 where
  pub queues : QueuesState
  pub passes : PassesState

-- the wire serves the port of its passes alone
abbrev pub serves_of : WireState → ℕ → Bool
serves_of w p = p == w.passes.port

-- it does not tell what is in flight
abbrev pub no_flight : Option InFlight
no_flight = None

-- queues of which all is known: for each port, and for each sender, what is in flight, in order
pub record InboxesState : Type 0 where
  pub queues : QueuesState
  pub flights : List (List (List Datagram))
  pub fulls : ℕ
  pub empties : ℕ

-- the senders' lists of what is in flight to a port
abbrev pub flights_to : InboxesState → ℕ → List (List Datagram)
flights_to w to = slice_index_or w.flights to []

-- what is in flight
abbrev pub flight_of : InboxesState → InFlight
flight_of w = record { size = w.queues.size; queues = λ to. joined (flights_to w to) }

-- the wire serves all ports
abbrev pub serves_all : InboxesState → ℕ → Bool
serves_all w p = nat_lt p (length w.flights)

-- it tells no account
abbrev pub no_account : Option Account
no_account = None

-- the passes of a port whose reader's pass has all senders
pub record IsGathered (tables : List InboxState) (port : ℕ) (v : PassesState) : Type 0 where
  pub own : v.port ≡ port
  pub reader : IsReadOf tables port v.reader
  pub whole : IsWhole v.reader.post

-- the passes of all ports, in order, whose reader's passes have all senders
pub record AreGathered (tables : List InboxState) (all : List PassesState) : Type 0 where
  pub each : (port : ℕ) (v : PassesState) → slice_get all port ≡ Some v → IsGathered tables port v
  pub count : length all ≡ length tables

-- what is in flight to the port of some passes, as far as the reader's pass knows
abbrev pub known_to : PassesState → List (List Datagram)
known_to v = v.reader.post.known

-- what is seen of queues with the passes of their ports
abbrev pub seen_by : QueuesState → List PassesState → InboxesState
seen_by queues all = record { queues = queues; flights = map known_to all; fulls = sum_by (λ v. v.reader.post.fulls) all; empties = sum_by empties_of all }

-- after a datagram was sent
abbrev pub after_put : InboxesState → Datagram → InboxesState
after_put w d = record w { flights = changed_at (λ lists. changed_at (λ ds. ds ++ d ∷ []) lists d.src.0) w.flights d.dst.0 }

-- after a datagram was taken
abbrev pub after_taken_out : InboxesState → Datagram → InboxesState
after_taken_out w d = record w { flights = changed_at (λ lists. changed_at (drop 1) lists d.src.0) w.flights d.dst.0 }

-- after an inbox was found full
abbrev pub after_full_inbox : InboxesState → InboxesState
after_full_inbox w = record w { fulls = w.fulls + 1 }

-- after an inbox was found empty
abbrev pub after_empty_inbox : InboxesState → InboxesState
after_empty_inbox w = record w { empties = w.empties + 1 }

-- new inboxes: nothing is in flight
pub record AreNew (ports size : ℕ) (w : InboxesState) : Type 0 where
  pub count : length w.queues.tables ≡ ports
  pub places : w.queues.size ≡ size
  pub nothing : w.flights ≡ replicate ports (replicate ports [])
  pub no_fulls : w.fulls ≡ 0
  pub no_empties : w.empties ≡ 0
