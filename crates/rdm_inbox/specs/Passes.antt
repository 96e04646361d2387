-- What contracts see of a pass.
use Rattle.std.specs.Prelude.{◌≡◌, ℕ, List, [], length}
use Rattle.atomic_table.specs.Seated.{TableId}
use Rattle.crossbeam_queue.specs.Passes.{Pass, view}
use Rattle.rdm_wire.specs.declared.Datagram.{Datagram}
use Rattle.rdm_inbox.specs.declared.post.SenderPost.{SenderPost}
use Rattle.rdm_inbox.specs.declared.post.ReaderPost.{ReaderPost}
use Rattle.rdm_inbox.specs.declared.post.Post.{Post}
use Rattle.rdm_inbox.specs.declared.post.Post.TheVariants.{Sender, Reader, Nobody}
use Rattle.rdm_inbox.specs.Letters.{new_reader, MayHold}

-- the name of a queue, and for how many datagrams it has places
pub record InboxState : Type 0 where
  pub table : TableId
  pub size : ℕ

-- a sender's pass of the queue with that name
pub record SendState : Type 0 where
  pub table : TableId
  pub post : SenderPost

-- a reader's pass of the queue with that name
pub record ReadState : Type 0 where
  pub table : TableId
  pub post : ReaderPost

-- what a pass knows, by a name of its own
abbrev pub post_of : Pass Datagram Post → Post
post_of p = view p

-- what a sender's pass knows
abbrev pub sender_of : Post → SenderPost
sender_of (Sender s) = s
sender_of (Reader r) = record { from = 0; port = 0; ports = 0; sent = []; fulls = 0 }
sender_of Nobody = record { from = 0; port = 0; ports = 0; sent = []; fulls = 0 }

-- what a reader's pass knows
abbrev pub reader_of : Post → ReaderPost
reader_of (Sender s) = new_reader 0 0 0
reader_of (Reader r) = r
reader_of Nobody = new_reader 0 0 0

abbrev pub IsSender : Post → Type 0
IsSender v = v ≡ Sender (sender_of v)

abbrev pub IsReader : Post → Type 0
IsReader v = v ≡ Reader (reader_of v)

-- as many datagrams were found in an inbox as there are places, of which the sender's own were the last that it sent
abbrev pub WasFull : (size : ℕ) → SenderPost → Type 0
WasFull size s = (items : List Datagram) × (length items ≡ size) × MayHold s items
