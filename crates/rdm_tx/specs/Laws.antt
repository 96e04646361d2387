-- What the packets come to that a send makes one by one, as statements.
use Rattle.std.specs.Prelude.{◌≡◌, ℕ, ◌+◌, ◌≤◌, List, [], ◌∷◌, length, Option, Some, None}
use Rattle.rdm_num.specs.declared.limits.EpLimits.{EpLimits}
use Rattle.rdm_num.specs.Pieces.{Piece}
use Rattle.rdm_pkt.specs.declared.Packet.{Packet}
use Rattle.rdm_pkt.specs.declared.Packet.TheVariants.{Rtm}
use Rattle.rdm_pkt.specs.Heads.{piece_of}
use Rattle.rdm_pkt.specs.Openings.{openings}
use Rattle.rdm_tx.specs.declared.message.Message.{Message}
use Rattle.rdm_tx.specs.declared.spans.Span.{Span}
use Rattle.rdm_tx.specs.Sends.{opened, packet_after, span_of, span_after, part, IsPacketWith}

-- the mtu has room for the headers of each packet, and a read list has up to four ranges
abbrev pub HasRoom : EpLimits → Message → Type 0
HasRoom limits m = (256 ≤ limits.mtu) × (length m.iov ≤ 4)

-- packets that were made one by one from the n-th on, each from the part of the message at the span that was next,
-- until there was no span
abbrev pub AreSteps : EpLimits → Message → List ℕ → ℕ → List Packet → Type 0
AreSteps limits m bytes n [] = span_after limits m bytes n ≡ None
AreSteps limits m bytes n (p ∷ ps) =
    ((s : Span) × (span_after limits m bytes n ≡ Some s) × IsPacketWith limits m (length bytes) n (part s bytes) (Some p))
    × AreSteps limits m bytes (n + 1) ps

-- packets that are made one by one from the start are those that open the message
abbrev pub StepsGiveOpenings : Type 0
StepsGiveOpenings =
    (limits : EpLimits) (m : Message) (bytes : List ℕ) (packets : List Packet)
    → AreSteps limits m bytes 0 packets
    → packets ≡ openings limits (opened m bytes) m.kind

-- a message has a first packet, whose span begins at the start; each later one begins where the one before it ends
abbrev pub SpansFollow : Type 0
SpansFollow =
    (limits : EpLimits) (m : Message) (bytes : List ℕ)
    → HasRoom limits m
    → ((s : Span) × (span_after limits m bytes 0 ≡ Some s) × (s.offset ≡ 0))
    × ((n : ℕ) (s t : Span) → span_after limits m bytes n ≡ Some s → span_after limits m bytes (n + 1) ≡ Some t → t.offset ≡ s.offset + s.length)

-- the bytes of a piece, if there is one
abbrev pub bytes_of : Option Piece → List ℕ
bytes_of None = []
bytes_of (Some p) = p.bytes

-- the bytes of its message that a packet carries
unfoldable pub carried : Packet → List ℕ
carried (Rtm number tag confirm opt form) = bytes_of (piece_of form)
carried _ = []

-- each packet carries the bytes of the message that stand at its span
abbrev pub PacketsCarryParts : Type 0
PacketsCarryParts =
    (limits : EpLimits) (m : Message) (bytes : List ℕ) (n : ℕ) (p : Packet)
    → HasRoom limits m
    → packet_after limits m bytes n ≡ Some p
    → carried p ≡ part (span_of p) bytes
