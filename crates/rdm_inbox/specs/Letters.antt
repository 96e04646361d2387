-- The rule of one inbox: for each sender, what was taken from it and what is queued from it, in order, is what its pass sent.
use Rattle.std.specs.Prelude.{◌≡◌, ℕ, ◌+◌, ◌-◌, ◌<◌, ◌≤◌, List, [], ◌∷◌, ◌++◌, length, take, drop, replicate}
use mathlib.Core.Option.{Option, some, none}
use lib.ListN.{get_elem?}
use Rattle.rdm_wire.specs.declared.Datagram.{Datagram}
use Rattle.rdm_wire.specs.Queues.{IsFor}
use Rattle.rdm_inbox.specs.declared.post.SenderPost.{SenderPost}
use Rattle.rdm_inbox.specs.declared.post.ReaderPost.{ReaderPost}
use Rattle.rdm_inbox.specs.declared.post.Post.{Post}
use Rattle.rdm_inbox.specs.declared.post.Post.TheVariants.{Sender, Reader, Nobody}
use Rattle.rdm_inbox.specs.Senders.{from_port, AreFor, list_at, joined, changed_at}

-- the account of an inbox: whose it is, of how many ports; which pass sends for each port, if one does; what each port sent, and what was taken
pub record InboxAccount : Type 0 where
  pub reader : ℕ
  pub port : ℕ
  pub ports : ℕ
  pub seat : ℕ → Option ℕ
  pub sent : ℕ → List Datagram
  pub taken : List Datagram

-- what the pass with a number knows is as in the account. The reader knows what those senders sent that have no pass of their own
abbrev pub Fits : InboxAccount → ℕ → Post → Type 0
Fits a pass (Sender s) = (a.seat s.from ≡ some pass) × (s.sent ≡ a.sent s.from) × (s.port ≡ a.port) × (s.ports ≡ a.ports) × (s.from < a.ports)
Fits a pass (Reader r) = (pass ≡ a.reader) × (r.taken ≡ a.taken) × (r.port ≡ a.port) × (r.ports ≡ a.ports)
    × ((p : ℕ) → a.ports ≤ p → (a.seat p ≡ none) × (a.sent p ≡ []))
    × ((p : ℕ) → p < length r.known → (a.seat p ≡ none) × (list_at r.known p ≡ a.sent p))
    × (length r.known ≤ a.ports)
Fits a pass Nobody = Unit {0}

-- the rule
pub record Letters (items : List Datagram) (views : List Post) : Type 0 where
  pub account : InboxAccount
  pub in_order : (p : ℕ) → from_port p (account.taken ++ items) ≡ account.sent p
  pub addressed : AreFor account.port account.ports items
  pub each : (pass : ℕ) (v : Post) → get_elem? views pass ≡ some v → Fits account pass v

-- a sender with one more datagram sent
abbrev pub with_sent : SenderPost → Datagram → SenderPost
with_sent s d = record s { sent = s.sent ++ d ∷ [] }

-- a sender that found the inbox full once more
abbrev pub with_full : SenderPost → SenderPost
with_full s = record s { fulls = s.fulls + 1 }

-- a reader of an inbox where nothing was sent, which has all senders
abbrev pub new_reader : (port ports size : ℕ) → ReaderPost
new_reader port ports size = record { port = port; ports = ports; size = size; taken = []; known = replicate ports []; fulls = 0; empties = 0 }

-- a reader with one more datagram taken
abbrev pub with_taken : ReaderPost → Datagram → ReaderPost
with_taken r d = record r { taken = r.taken ++ d ∷ [] }

-- a reader that found the inbox empty once more
abbrev pub with_empty : ReaderPost → ReaderPost
with_empty r = record r { empties = r.empties + 1 }

-- a reader that found the inbox full once more, for one of the senders that it has
abbrev pub with_full_for : ReaderPost → ReaderPost
with_full_for r = record r { fulls = r.fulls + 1 }

-- a reader after it sent for one of the senders that it has
abbrev pub with_put : ReaderPost → Datagram → ReaderPost
with_put r d = record r { known = changed_at (λ ds. ds ++ d ∷ []) r.known d.src.0 }

-- a reader after it took a datagram and forgot it
abbrev pub with_taken_out : ReaderPost → Datagram → ReaderPost
with_taken_out r d = record r { known = changed_at (drop 1) r.known d.src.0 }

-- a reader without the last sender that it has
abbrev pub but_last : ReaderPost → ReaderPost
but_last r = record r { known = take (length r.known - 1) r.known }

-- the last sender that a reader has, on its own
abbrev pub last_of : ReaderPost → SenderPost
last_of r = record { from = length r.known - 1; port = r.port; ports = r.ports; sent = list_at r.known (length r.known - 1); fulls = 0 }

-- a reader with one more sender
abbrev pub with_sender : ReaderPost → SenderPost → ReaderPost
with_sender r s = record r { known = r.known ++ s.sent ∷ []; fulls = r.fulls + s.fulls }

-- of what each sender sent, from sender p on, what is left when its part of what was taken is taken away
abbrev pub left_of : (taken : List Datagram) → (sent : List (List Datagram)) → (p : ℕ) → List (List Datagram)
left_of taken [] p = []
left_of taken (ds ∷ sent) p = drop (length (from_port p taken)) ds ∷ left_of taken sent (p + 1)

-- a reader that has forgotten what was taken
abbrev pub but_taken : ReaderPost → ReaderPost
but_taken r = record r { taken = []; known = left_of r.taken r.known 0 }

-- the first pass of a queue, before it is known whose inbox it is
abbrev pub unopened : Post
unopened = Reader (new_reader 0 0 0)

-- what the splits and joins make of a pass
abbrev pub opened : (port ports size : ℕ) → Post
opened port ports size = Reader (new_reader port ports size)

abbrev pub after_full : Post → Post
after_full (Sender s) = Sender (with_full s)
after_full (Reader r) = Reader (with_full_for r)
after_full Nobody = Nobody

abbrev pub after_empty : Post → Post
after_empty (Sender s) = Sender s
after_empty (Reader r) = Reader (with_empty r)
after_empty Nobody = Nobody

abbrev pub without_last : Post → Post
without_last (Sender s) = Sender s
without_last (Reader r) = Reader (but_last r)
without_last Nobody = Nobody

abbrev pub last_sender : Post → Post
last_sender (Sender s) = Nobody
last_sender (Reader r) = Sender (last_of r)
last_sender Nobody = Nobody

abbrev pub taken_in : Post → Post → Post
taken_in (Reader r) (Sender s) = Reader (with_sender r s)
taken_in (Reader r) (Reader t) = Reader r
taken_in (Reader r) Nobody = Reader r
taken_in (Sender s) w = Sender s
taken_in Nobody w = Nobody

abbrev pub settled : Post → Post
settled (Sender s) = Sender s
settled (Reader r) = Reader (but_taken r)
settled Nobody = Nobody

-- what a push tells a sender
abbrev pub DoesSend : Post → Datagram → Post → Type 0
DoesSend (Sender s) d w = w ≡ Sender (with_sent s d)
DoesSend (Reader r) d w = Unit {0}
DoesSend Nobody d w = Unit {0}

-- what a pop tells the reader: the datagram is for its port and comes from one of the ports
abbrev pub DoesTake : Post → Datagram → Post → Type 0
DoesTake (Sender s) d w = Unit {0}
DoesTake (Reader r) d w = (w ≡ Reader (with_taken r d)) × IsFor r.port r.ports d
DoesTake Nobody d w = Unit {0}

-- the reader has all senders, and has forgotten what was taken
abbrev pub IsWhole : ReaderPost → Type 0
IsWhole r = (length r.known ≡ r.ports) × (r.taken ≡ [])

-- what a push tells a reader that has all senders: fewer were in flight than may be
abbrev pub DoesPut : Post → Datagram → Post → Type 0
DoesPut (Sender s) d w = Unit {0}
DoesPut (Reader r) d w = (w ≡ Reader (with_put r d)) × (length (joined r.known) < r.size)
DoesPut Nobody d w = Unit {0}

-- the datagram is the first in flight from its sender
abbrev pub IsFirst : ReaderPost → Datagram → Type 0
IsFirst r d = IsFor r.port r.ports d × (list_at r.known d.src.0 ≡ d ∷ drop 1 (list_at r.known d.src.0))

-- what a pop tells a reader that has all senders: the datagram was the first of those from its sender
abbrev pub DoesTakeOut : Post → Datagram → Post → Type 0
DoesTakeOut (Sender s) d w = Unit {0}
DoesTakeOut (Reader r) d w = (w ≡ Reader (with_taken_out r d)) × IsFirst r d
DoesTakeOut Nobody d w = Unit {0}

-- datagrams that may be those in an inbox, as far as a sender knows: its own are the last that it sent
abbrev pub MayHold : SenderPost → List Datagram → Type 0
MayHold s items = AreFor s.port s.ports items × ((before : List Datagram) × (from_port s.from (before ++ items) ≡ s.sent))

-- and as far as a reader knows: of each sender that it has, they are those that it sent and that were not taken
abbrev pub MayHoldFor : ReaderPost → List Datagram → Type 0
MayHoldFor r items = AreFor r.port r.ports items × ((p : ℕ) → p < length r.known → from_port p (r.taken ++ items) ≡ list_at r.known p)

-- what a pass may learn of the datagrams in its inbox
abbrev pub IsLeft : Post → List Datagram → Type 0
IsLeft (Sender s) items = MayHold s items
IsLeft (Reader r) items = MayHoldFor r items
IsLeft Nobody items = Unit {0}
