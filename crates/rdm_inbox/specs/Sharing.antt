-- What the passes of all ports come to be, while they are dealt out and gathered again.
use Rattle.std.specs.Prelude.{◌≡◌, ℕ, ◌+◌, ◌<◌, ◌≤◌, List, [], ◌++◌, length, map, take, sum, if◌then◌else◌, nat_lt, nat_le, Option, None, Some, slice_get, slice_index_or, vec_capacity, Vec}
use Rattle.rdm_wire.specs.declared.Datagram.{Datagram}
use Rattle.rdm_inbox.specs.Senders.{from_port, list_at}
use Rattle.rdm_inbox.specs.Letters.{last_of, with_sender, but_taken, left_of}
use Rattle.rdm_inbox.specs.Passes.{InboxState, SendState}
use Rattle.rdm_inbox.specs.Queues.{QueuesState, PassesState, InboxesState, AreAllPasses, names, with_reader, sent_to, taken_by, known_to, flights_to}

-- the reader's passes are of the queues, in order
pub record AreNamed (tables : List InboxState) (all : List PassesState) : Type 0 where
  pub each : (port : ℕ) (v : PassesState) → slice_get all port ≡ Some v → slice_get (names tables) port ≡ Some v.reader.table
  pub count : length all ≡ length tables

-- each reader's pass has a sender
abbrev pub KnowSome : List PassesState → Type 0
KnowSome all = (port : ℕ) (v : PassesState) → slice_get all port ≡ Some v → 0 < length v.reader.post.known

-- the last sender of a reader's pass, on its own
abbrev pub parted : PassesState → SendState
parted v = record { table = v.reader.table; post = last_of v.reader.post }

-- the pass by which a port sends to the inbox of some passes, which know what is in flight from it
abbrev pub pass_for : (from : ℕ) → PassesState → SendState
pass_for from v = record { table = v.reader.table; post = record { from = from; port = v.reader.post.port; ports = v.reader.post.ports; sent = list_at v.reader.post.known from; fulls = 0 } }

-- the passes of a port, when those of the ports from `next` on have been dealt out
abbrev pub dealt : (all : List PassesState) (next port : ℕ) → PassesState → PassesState
dealt all next port v = record v {
  senders = if nat_le next port then map (pass_for port) all else v.senders;
  reader = record v.reader { post = record v.reader.post { known = take next v.reader.post.known } };
}

-- so are those of all ports
pub record AreDealt (all : List PassesState) (next : ℕ) (now : List PassesState) : Type 0 where
  pub each : (port : ℕ) (v : PassesState) → slice_get all port ≡ Some v → slice_get now port ≡ Some (dealt all next port v)
  pub count : length now ≡ length all

-- the passes of a port, whose reader's pass took in a sender, where there is one
abbrev pub with_next : Option SendState → PassesState → PassesState
with_next None v = v
with_next (Some s) v = with_reader (λ r. with_sender r s.post) v

-- each of the senders is the next that the reader's pass of its inbox lacks
pub record AreNext (all : List PassesState) (row : List SendState) : Type 0 where
  pub each : (port : ℕ) (v : PassesState) (s : SendState) → slice_get all port ≡ Some v → slice_get row port ≡ Some s → (s.table ≡ v.reader.table) × (s.post.from ≡ length v.reader.post.known)
  pub count : length row ≡ length all

-- what each port sent to an inbox
abbrev pub sent_by_all : List PassesState → ℕ → List (List Datagram)
sent_by_all all to = map (λ v. sent_to v to) all

-- how often a port found an inbox full
abbrev pub fulls_at : PassesState → ℕ → ℕ
fulls_at v to = slice_index_or (map (λ s. s.post.fulls) v.senders) to 0

-- the passes of a port, when the first `next` ports' senders have been taken in
abbrev pub collected : (all : List PassesState) (next port : ℕ) → PassesState → PassesState
collected all next port v = record v {
  senders = if nat_lt port next then [] else v.senders;
  reader = record v.reader {
    post = record v.reader.post {
      known = take next (sent_by_all all port);
      fulls = v.reader.post.fulls + sum (take next (map (λ u. fulls_at u port) all));
    };
  };
}

-- so are those of all ports
pub record AreCollected (all : List PassesState) (next : ℕ) (now : List PassesState) : Type 0 where
  pub each : (port : ℕ) (v : PassesState) → slice_get all port ≡ Some v → slice_get now port ≡ Some (collected all next port v)
  pub count : length now ≡ length all

-- each reader's pass has all senders
abbrev pub AreWhole : List PassesState → Type 0
AreWhole all = (port : ℕ) (v : PassesState) → slice_get all port ≡ Some v → length v.reader.post.known ≡ v.reader.post.ports

-- what was taken of each sender, and what is left, are what it sent
abbrev pub Remains : PassesState → Type 0
Remains v = (p : ℕ) → p < v.reader.post.ports → from_port p (taken_by v) ++ list_at (left_of (taken_by v) v.reader.post.known 0) p ≡ list_at v.reader.post.known p

-- the first `next` ports' readers have forgotten what was taken
pub record AreSettled (all : List PassesState) (next : ℕ) (now : List PassesState) : Type 0 where
  pub each : (port : ℕ) (v : PassesState) → slice_get all port ≡ Some v → slice_get now port ≡ Some (if nat_lt port next then with_reader but_taken v else v)
  pub left : (port : ℕ) (v : PassesState) → slice_get all port ≡ Some v → port < next → Remains v
  pub count : length now ≡ length all

-- of each sender, what was taken from it and what is left, in order, are what it sent
abbrev pub AreLeft : (all now : List PassesState) → Type 0
AreLeft all now = (port from : ℕ) (v u w : PassesState) → slice_get all port ≡ Some v → slice_get all from ≡ Some u → slice_get now port ≡ Some w → from_port from (taken_by v) ++ list_at (known_to w) from ≡ sent_to u port

-- empty rows, each with room for so many passes
abbrev pub AreRows : {A : Type 0} → (room : ℕ) → List (Vec SendState A) → Type 0
AreRows {A} room rows = (port : ℕ) (row : Vec SendState A) → slice_get rows port ≡ Some row → (row.items ≡ []) × (room ≤ vec_capacity row)

-- the queues, and the passes of all ports: what is in flight counts as sent by them, and none of it as taken
pub record AreOpened (w : InboxesState) (queues : QueuesState) (all : List PassesState) : Type 0 where
  pub same : queues ≡ w.queues
  pub passes : AreAllPasses queues.tables all
  pub sent : (port to : ℕ) (v : PassesState) → slice_get all port ≡ Some v → sent_to v to ≡ list_at (flights_to w to) port
  pub taken : (port : ℕ) (v : PassesState) → slice_get all port ≡ Some v → taken_by v ≡ []

-- inboxes with the passes of all ports: of each sender, what was taken from it and what is in flight from it, in order, are what it sent
pub record AreClosed (queues : QueuesState) (all : List PassesState) (w : InboxesState) : Type 0 where
  pub same : w.queues ≡ queues
  pub count : length w.flights ≡ length queues.tables
  pub senders : (port : ℕ) → port < length queues.tables → length (flights_to w port) ≡ length queues.tables
  pub left : (port from : ℕ) (v u : PassesState) → slice_get all port ≡ Some v → slice_get all from ≡ Some u → from_port from (taken_by v) ++ list_at (flights_to w port) from ≡ sent_to u port
