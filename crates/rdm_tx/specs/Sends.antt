-- What a send gives: the packets that open its message, by number, and where their bytes stand in it.
use Rattle.std.specs.Prelude.{◌≡◌, ℕ, ◌+◌, if◌then◌else◌, List, length, Option, Some, None, is_some, option_map, IfSome, slice_get, slice_range}
use Rattle.rdm_num.specs.declared.limits.EpLimits.{EpLimits}
use Rattle.rdm_num.specs.Pieces.{Piece}
use Rattle.rdm_pkt.specs.declared.Packet.{Packet}
use Rattle.rdm_pkt.specs.declared.Packet.TheVariants.{Rtm}
use Rattle.rdm_pkt.specs.declared.Form.{Form}
use Rattle.rdm_pkt.specs.Heads.{piece_of}
use Rattle.rdm_pkt.specs.Openings as Openings
use Rattle.rdm_tx.specs.declared.message.Message.{Message}
use Rattle.rdm_tx.specs.declared.spans.Span.{Span}

-- the message as it opens, with its bytes
abbrev pub opened : Message → List ℕ → Openings.Message
opened m bytes = record { no = m.no; tag = m.tag; confirm = m.confirm; opt = m.opt; send = m.send_id; iov = m.iov; bytes = bytes }

-- the packet of that form which opens the message by its kind
abbrev pub opener : Message → Form → Packet
opener m form = Rtm m.no m.tag (Openings.says_confirm m.kind m.confirm) m.opt form

-- the packet that comes after the first n of those that open the message, if there is one
abbrev pub packet_after : EpLimits → Message → List ℕ → ℕ → Option Packet
packet_after limits m bytes n = slice_get (Openings.openings limits (opened m bytes) m.kind) n

-- how many packets were given once that one was given too
abbrev pub given_after : ℕ → Option Packet → ℕ
given_after n packet = if is_some packet then n + 1 else n

-- how many packets open the message
abbrev pub packet_count : EpLimits → Message → List ℕ → ℕ
packet_count limits m bytes = length (Openings.openings limits (opened m bytes) m.kind)

-- where a piece stands and how long it is; no piece is no bytes at the start
unfoldable pub span_at : Option Piece → Span
span_at None = record { offset = 0; length = 0 }
span_at (Some p) = record { offset = p.offset; length = length p.bytes }

-- where the bytes stand in the message that a packet opens it with, and how many they are
unfoldable pub span_of : Packet → Span
span_of (Rtm number tag confirm opt form) = span_at (piece_of form)
span_of _ = span_at None

-- the bytes of a message that stand there
abbrev pub part : Span → List ℕ → List ℕ
part s bytes = slice_range bytes s.offset (s.offset + s.length)

-- where the bytes of the packet stand that comes after the first n, if there is one
abbrev pub span_after : EpLimits → Message → List ℕ → ℕ → Option Span
span_after limits m bytes n = option_map span_of (packet_after limits m bytes n)

-- that is the span after the first n packets of every message with these headers and of that length
abbrev pub IsSpanAfter : EpLimits → Message → (len n : ℕ) → Option Span → Type 0
IsSpanAfter limits m len n span = (bytes : List ℕ) → length bytes ≡ len → span ≡ span_after limits m bytes n

-- that is the packet after the first n of every message with these headers, of that length, which has the piece where
-- the packet's bytes stand
abbrev pub IsPacketWith : EpLimits → Message → (len n : ℕ) → (piece : List ℕ) → Option Packet → Type 0
IsPacketWith limits m len n piece packet =
    (bytes : List ℕ)
    → length bytes ≡ len
    → IfSome (span_after limits m bytes n) (λ s. piece ≡ part s bytes)
    → packet ≡ packet_after limits m bytes n
