-- What a wire in memory is seen as.
use Rattle.std.specs.Prelude.{◌≡◌, ℕ, ◌<◌, List, [], length, slice_index_or}
use Rattle.rdm_wire.specs.declared.Datagram.{Datagram}
use Rattle.rdm_wire.specs.Flights.{InFlight}

-- the datagrams that wait for one port of so many, and how many may
pub record QueueState : Type 0 where
  pub port : ℕ
  pub ports : ℕ
  pub size : ℕ
  pub list : List Datagram

-- the datagram is for that port of so many, and comes from one
abbrev pub IsFor : (port ports : ℕ) → Datagram → Type 0
IsFor port ports d = (d.dst.0 ≡ port) × (d.src.0 < ports)

-- a wire: the datagrams that wait for each port, how many may for each, and how often it refused
pub record MemWireState : Type 0 where
  pub size : ℕ
  pub queues : List (List Datagram)
  pub fulls : ℕ
  pub empties : ℕ

-- the queue of that port of so many, with that size
abbrev pub IsQueueOf : (size ports port : ℕ) → QueueState → Type 0
IsQueueOf size ports port q = (q.port ≡ port) × (q.ports ≡ ports) × (q.size ≡ size)

-- each queue stands at its port's place, and has the wire's size
abbrev pub AreQueues : (size ports : ℕ) → List QueueState → Type 0
AreQueues size ports queues = (p : ℕ) → (default : QueueState) → p < length queues → IsQueueOf size ports p (slice_index_or queues p default)

-- what is in flight in it
abbrev pub flight_of : MemWireState → InFlight
flight_of w = record { size = w.size; queues = λ p. slice_index_or w.queues p [] }
