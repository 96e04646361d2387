-- What is lent of the messages of live receives while their bytes are copied: a datagram may begin to land, so that the range of its
-- bytes is out as a part, and later land, which is as if it were handled then, or be given back.
use Rattle.std.specs.Prelude.{◌≡◌, ◌<◌, ◌≤◌, ℕ, ◌+◌, Bool, false, not, ◌&&◌, ◌==◌, nat_lt, List, [], ◌∷◌, ◌++◌, length, filter, Option, Some, None}
use Rattle.std.specs.List.{list_any}
use Rattle.rdm_num.specs.Pieces.{Piece, overlaps}
use Rattle.rdm_num.specs.declared.numbers.Life.{Life}
use Rattle.rdm_pkt.specs.declared.Packet.TheVariants.{Rtm, CtsData}
use Rattle.rdm_pkt.specs.Heads.{piece_of}
use Rattle.rdm_model.specs.declared.job.Instr.TheVariants.{Insert}
use Rattle.rdm_model.specs.Currents.{other_life}
use Rattle.rdm_model.specs.Deeds.{Deed, Did, Took, Item, Spelled, Gives}
use Rattle.rdm_life.specs.Kept.{Kept, LiveReceive, Matched, receive_numbered}
use Rattle.rdm_life.specs.Forgetting.{concerns}
use Rattle.rdm_life.specs.Handling.{receive_of, after}
use Rattle.rdm_life.specs.Facts.{receive_from}

-- a range of the message of a live receive
pub record Loan : Type 0 where
  pub recv : ℕ
  pub offset : ℕ
  pub len : ℕ

-- what is kept, and what is out of it
pub record Lending : Type 0 where
  pub kept : Kept
  pub out : List Loan

-- ---- what a datagram brings

-- a piece of the message of a receive
unfoldable pub range_of : Option LiveReceive → Option Piece → Option Loan
range_of (Some r) (Some p) = Some (record { recv = r.receive.number; offset = p.offset; len = length p.bytes })
range_of _ _ = None

-- the bytes that a datagram of that life has for a live receive that was matched before
unfoldable pub brought : Kept → Life → Item → Option Loan
brought v from (Spelled (Rtm number tag confirm opt form)) = range_of (receive_of v from number.0) (piece_of form)
brought v from (Spelled (CtsData recv offset connid bytes)) = range_of (receive_from v from recv.0) (Some (record { offset = offset; bytes = bytes }))
brought v from (Gives g) = range_of (receive_from v from g.recv_id.0) (Some (record { offset = g.at; bytes = g.bytes }))
brought v from _ = None

-- two ranges share a place of one receive
unfoldable pub share : Loan → Loan → Bool
share a b = (a.recv == b.recv) && overlaps a.offset a.len b.offset b.len

-- it shares no place with what is out
unfoldable pub is_free : List Loan → Loan → Bool
is_free out l = not (list_any (share l) out)

-- so bytes that share a place with what is out have to wait
unfoldable pub is_again_copy : Lending → Option Loan → Bool
is_again_copy w None = false
is_again_copy w (Some l) = not (is_free w.out l)

-- ---- loans

-- some byte of the range lies below the capacity of its receive
unfoldable pub is_below : Option LiveReceive → Loan → Bool
is_below None l = false
is_below (Some r) l = nat_lt 0 l.len && nat_lt l.offset r.receive.req.len

-- the range may be lent
unfoldable pub may_lend : Lending → Loan → Bool
may_lend w l = is_free w.out l && is_below (receive_numbered w.kept l.recv) l

-- it is lent
abbrev pub lend : Loan → Lending → Lending
lend l w = record w { out = w.out ++ l ∷ [] }

-- the same loan
unfoldable pub same_loan : Loan → Loan → Bool
same_loan a b = (a.recv == b.recv) && (a.offset == b.offset) && (a.len == b.len)

-- it is given back: its bytes are missing as before
abbrev pub unlend : Loan → Lending → Lending
unlend l w = record w { out = filter (λ (k : Loan). not (same_loan k l)) w.out }

-- the datagram for which it was lent lands: as if it were given back and the datagram were handled then
abbrev pub land_lent : Loan → Life → Item → Lending → Lending
land_lent l from item w = record (unlend l w) { kept = after (Took from item) w.kept }

-- how many parts are out of receives that pass
unfoldable pub parts_out : (LiveReceive → Bool) → Lending → ℕ
parts_out test w = length (filter (λ (l : Loan). list_any (λ (r : LiveReceive). (r.receive.number == l.recv) && test r) w.kept.receives) w.out)

-- ---- what leaves them

-- a live receive has a message, the range lies in it, and none of its bytes came
pub record IsMissing (v : Kept) (l : Loan) : Type 0 where
  pub receive : LiveReceive
  pub found : receive_numbered v l.recv ≡ Some receive
  pub message : Matched
  pub matched : receive.matched ≡ Some message
  pub some_place : 0 < l.len
  pub within : l.offset + l.len ≤ message.head.length
  pub missing : (place : ℕ) → l.offset ≤ place → place < l.offset + l.len → message.came place ≡ false

-- a deed spares a range: what it brings shares no place with it, and it forgets no life that its receive concerns
abbrev pub Spares : Kept → Deed → Loan → Type 0
Spares v (Took from item) l = (k : Loan) → brought v from item ≡ Some k → share k l ≡ false
Spares v (Did (Insert life)) l = (r : LiveReceive) → receive_numbered v l.recv ≡ Some r → concerns (other_life life (v.current life.port.0)) r ≡ false
Spares v _ l = Unit {0}
