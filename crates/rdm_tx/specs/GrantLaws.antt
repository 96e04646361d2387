-- What the packets of granted bytes come to, as statements.
use Rattle.std.specs.Prelude.{◌≡◌, ⊤, ℕ, ◌+◌, ◌≤◌, IsTrue, not, List, [], ◌∷◌, length, Option, Some, None}
use Rattle.rdm_num.specs.Lives.{op_id}
use Rattle.rdm_num.specs.Pieces.{piece_bytes}
use Rattle.rdm_num.specs.declared.limits.EpLimits.{EpLimits}
use Rattle.rdm_num.specs.declared.numbers.Connid.{Connid}
use Rattle.rdm_pkt.specs.declared.Packet.{Packet}
use Rattle.rdm_pkt.specs.declared.Packet.TheVariants.{CtsData}
use Rattle.rdm_model.specs.Beginnings.{Own}
use Rattle.rdm_model.specs.Dues.{pieces_in, data_packet}
use Rattle.rdm_model.specs.Grants.{Grant, grant_bytes}
use Rattle.rdm_model.specs.Sends.{Sent}
use Rattle.rdm_tx.specs.declared.spans.Span.{Span}
use Rattle.rdm_tx.specs.Sends.{part}
use Rattle.rdm_tx.specs.Granting.{Granting, ungranted, is_wrong_for, with_grant, span_next, packet_with, pushed}

-- a grant is taken, or a packet is pushed
pub data Move : Type 0 where
  Takes : Grant → Move
  Pushes : Packet → Move

-- one after the other: each grant is one that may be, and each packet is made from the part of the message at the span that
-- was next
abbrev pub AreMoves : EpLimits → Connid → (bytes : List ℕ) → Granting → List Move → Type 0
AreMoves limits own bytes g [] = ⊤
AreMoves limits own bytes g (Takes x ∷ ms) = IsTrue (not (is_wrong_for x.recv x.size g)) × AreMoves limits own bytes (with_grant x.recv x.size g) ms
AreMoves limits own bytes g (Pushes p ∷ ms) =
    ((s : Span) × (span_next limits g ≡ Some s) × (Some p ≡ packet_with own g (part s bytes))) × AreMoves limits own bytes (pushed limits g) ms

-- what the moves leave
unfoldable pub after_moves : EpLimits → Granting → List Move → Granting
after_moves limits g [] = g
after_moves limits g (Takes x ∷ ms) = after_moves limits (with_grant x.recv x.size g) ms
after_moves limits g (Pushes p ∷ ms) = after_moves limits (pushed limits g) ms

-- the grants that were taken, in order
unfoldable pub taken : List Move → List Grant
taken [] = []
taken (Takes x ∷ ms) = x ∷ taken ms
taken (Pushes p ∷ ms) = taken ms

-- the packets that were pushed, in order
unfoldable pub packets : List Move → List Packet
packets [] = []
packets (Takes x ∷ ms) = packets ms
packets (Pushes p ∷ ms) = p ∷ packets ms

-- the receive that the first of the grants names
unfoldable pub first_granter : List Grant → Option ℕ
first_granter [] = None
first_granter (x ∷ xs) = Some x.recv

-- packets to that receive which follow each other in the message from that place on without a gap, each with the bytes that
-- stand there
abbrev pub Follow : Connid → (granter : Option ℕ) → (bytes : List ℕ) → (at : ℕ) → List Packet → Type 0
Follow own granter bytes at [] = ⊤
Follow own granter bytes at (p ∷ ps) =
    (recv : ℕ) × (len : ℕ)
    × (granter ≡ Some recv)
    × (at + len ≤ length bytes)
    × (p ≡ CtsData (op_id recv) at own (part (record { offset = at; length = len }) bytes))
    × Follow own granter bytes (at + len) ps

-- the packets of a message follow each other from where its first part ends, and go to the receive that the first grant named
abbrev pub GrantedFollow : Type 0
GrantedFollow =
    (limits : EpLimits) (own : Connid) (bytes : List ℕ) (first : ℕ) (moves : List Move)
    → first ≤ length bytes
    → AreMoves limits own bytes (ungranted (length bytes) first) moves
    → Follow own (first_granter (taken moves)) bytes first (packets moves)

-- so many bytes were pushed as the first part and the packets have, so many may be as the first part and the grants have, and
-- no more were than may be, nor may be than the message has
pub record IsCounted (g : Granting) (first : ℕ) (moves : List Move) : Type 0 where
  pub done : g.done ≡ first + piece_bytes (pieces_in (packets moves))
  pub allowed : g.allowed ≡ first + grant_bytes (taken moves)
  pub granted_by : g.granted_by ≡ first_granter (taken moves)
  pub within_grants : g.done ≤ g.allowed
  pub within_message : g.allowed ≤ g.total

-- all that is kept of a message is what its packets and grants come to
abbrev pub GrantedIsCounted : Type 0
GrantedIsCounted =
    (limits : EpLimits) (own : Connid) (bytes : List ℕ) (first : ℕ) (moves : List Move)
    → first ≤ length bytes
    → AreMoves limits own bytes (ungranted (length bytes) first) moves
    → IsCounted (after_moves limits (ungranted (length bytes) first) moves) first moves

-- the next packet is the one that a life owes of a send that was granted so
abbrev pub GrantedAreDue : Type 0
GrantedAreDue =
    (own : Own) (s : Sent) (g : Granting) (gs : List Grant)
    → g.total ≡ length s.message.bytes
    → g.allowed ≤ g.total
    → g.granted_by ≡ first_granter gs
    → ((span : Span) → span_next own.limits g ≡ Some span → packet_with own.life.connid g (part span s.message.bytes) ≡ data_packet own s g.allowed g.done gs)
    × (span_next own.limits g ≡ None → data_packet own s g.allowed g.done gs ≡ None)
