-- What goes out of a send, and what a push leaves.
use Rattle.std.specs.Prelude.{◌≡◌, ℕ, ◌+◌, Bool, true, not, ◌&&◌, ◌==◌, nat_le, if◌then◌else◌, List, length, Option, Some, None, is_some, IfSome}
use Rattle.rdm_lists.specs.Lists.{or_else}
use Rattle.rdm_num.specs.declared.limits.EpLimits.{EpLimits}
use Rattle.rdm_num.specs.declared.numbers.Connid.{Connid}
use Rattle.rdm_pkt.specs.declared.Packet.{Packet}
use Rattle.rdm_model.specs.Dues.{is_read}
use Rattle.rdm_tx.specs.Sends.{packet_after, packet_count, span_after, part}
use Rattle.rdm_tx.specs.Granting as Granting
use Rattle.rdm_tx.specs.declared.spans.Span.{Span}
use Rattle.rdm_sends.specs.declared.protocol.Protocol.{Protocol}
use Rattle.rdm_sends.specs.declared.protocol.Protocol.TheVariants.{Whole, Granted, Read}
use Rattle.rdm_sends.specs.Sending.{SendingView}

-- where the next granted bytes stand
unfoldable pub granted_span : EpLimits → Protocol → Option Span
granted_span limits (Granted g) = Granting.span_next limits g
granted_span limits _ = None

-- where the bytes of the next packet stand in the message: the packets that open it come first, and then what was granted
abbrev pub span_next : EpLimits → SendingView → (bytes : List ℕ) → Option Span
span_next limits x bytes = or_else (span_after limits x.message bytes x.given) (granted_span limits x.protocol)

-- that is the span of each message of that length
abbrev pub IsSpanNext : EpLimits → SendingView → Option Span → Type 0
IsSpanNext limits x span = (bytes : List ℕ) → length bytes ≡ x.total → span ≡ span_next limits x bytes

-- there is a next packet
abbrev pub HasNext : EpLimits → SendingView → Bool → Type 0
HasNext limits x b = (bytes : List ℕ) → length bytes ≡ x.total → b ≡ is_some (span_next limits x bytes)

-- so many bytes are those of the next packet, if there is one
abbrev pub IsLengthNext : EpLimits → SendingView → ℕ → Type 0
IsLengthNext limits x len = (bytes : List ℕ) → length bytes ≡ x.total → IfSome (span_next limits x bytes) (λ s. len ≡ s.length)

-- the packet of the granted bytes that stand there
unfoldable pub granted_by : Connid → (bytes : List ℕ) → Protocol → Option Span → Option Packet
granted_by own bytes (Granted g) (Some s) = Granting.packet_with own g (part s bytes)
granted_by own bytes _ _ = None

-- the next packet of a message of these bytes
abbrev pub packet_next : Connid → EpLimits → SendingView → (bytes : List ℕ) → Option Packet
packet_next own limits x bytes = or_else (packet_after limits x.message bytes x.given) (granted_by own bytes x.protocol (granted_span limits x.protocol))

-- that is the next packet of each message of that length which has the piece where the packet's bytes stand
abbrev pub IsPacketNext : Connid → EpLimits → SendingView → (piece : List ℕ) → Option Packet → Type 0
IsPacketNext own limits x piece packet =
    (bytes : List ℕ) → length bytes ≡ x.total → IfSome (span_next limits x bytes) (λ s. piece ≡ part s bytes) → packet ≡ packet_next own limits x bytes

-- every packet that opens the message was pushed
abbrev pub is_opened : EpLimits → SendingView → (bytes : List ℕ) → Bool
is_opened limits x bytes = nat_le (packet_count limits x.message bytes) x.given

-- one packet more of granted bytes was pushed
unfoldable pub pushed_by : EpLimits → Protocol → Protocol
pushed_by limits Whole = Whole
pushed_by limits (Granted g) = Granted (Granting.pushed limits g)
pushed_by limits (Read a) = Read a

-- one packet more was pushed
abbrev pub pushed : EpLimits → SendingView → (bytes : List ℕ) → SendingView
pushed limits x bytes =
    if is_opened limits x bytes then record x { protocol = pushed_by limits x.protocol } else record x { given = x.given + 1 }

-- that is what the push leaves, of each message of that length
abbrev pub IsPushed : EpLimits → (old new : SendingView) → Type 0
IsPushed limits old new = (bytes : List ℕ) → length bytes ≡ old.total → new ≡ pushed limits old bytes

-- all bytes that are granted to come after the first ones were pushed
unfoldable pub is_sent_by : Protocol → Bool
is_sent_by (Granted g) = g.done == g.total
is_sent_by _ = true

-- the whole message was pushed
abbrev pub is_sent : EpLimits → SendingView → (bytes : List ℕ) → Bool
is_sent limits x bytes = is_opened limits x bytes && is_sent_by x.protocol

-- that is so of each message of that length
abbrev pub IsSent : EpLimits → SendingView → Bool → Type 0
IsSent limits x b = (bytes : List ℕ) → length bytes ≡ x.total → b ≡ is_sent limits x bytes

-- a send that neither its receiver ends nor a receipt is over once it was pushed
abbrev pub ends_by_push : EpLimits → SendingView → (bytes : List ℕ) → Bool
ends_by_push limits x bytes = not (is_read x.message.kind) && not x.message.confirm && is_sent limits x bytes

-- that is so of each message of that length
abbrev pub EndsByPush : EpLimits → SendingView → Bool → Type 0
EndsByPush limits x b = (bytes : List ℕ) → length bytes ≡ x.total → b ≡ ends_by_push limits x bytes
