-- The next span and the next packet, by whether a packet is left that opens the message.
use Rattle.std.proofs.Common.{◌≡◌, ℕ, List, length, replicate, Option, Some, None, refl, sym, subst, ap, ◌∙◌}
use Rattle.std.specs.Prelude.{IfSome, option_map}
use Rattle.std.proofs.lemmas.List.{length-replicate}
use Rattle.rdm_lists.specs.Lists.{or_else}
use Rattle.rdm_num.specs.declared.limits.EpLimits.{EpLimits}
use Rattle.rdm_num.specs.declared.numbers.Connid.{Connid}
use Rattle.rdm_pkt.specs.declared.Packet.{Packet}
use Rattle.rdm_tx.specs.declared.spans.Span.{Span}
use Rattle.rdm_tx.specs.Sends.{part, span_of, span_after, packet_after, IsSpanAfter, IsPacketWith}
use Rattle.rdm_sends.specs.Sending.{SendingView}
use Rattle.rdm_sends.specs.Pushing.{granted_span, granted_by, span_next, IsSpanNext, IsLengthNext, IsPacketNext}

-- a span of a packet that opens the message comes first
pub span_first : (limits : EpLimits) (x : SendingView) (s : Span) → IsSpanAfter limits x.message x.total x.given (Some s) → IsSpanNext limits x (Some s)
unfolding or_else
span_first limits x s h = λ bytes e. ap (λ (o : Option Span). or_else o (granted_span limits x.protocol)) (h bytes e)

-- then the granted bytes
pub span_second : (limits : EpLimits) (x : SendingView) (r : Option Span) → IsSpanAfter limits x.message x.total x.given None → r ≡ granted_span limits x.protocol → IsSpanNext limits x r
unfolding or_else
span_second limits x r h q = λ bytes e. q ∙ ap (λ (o : Option Span). or_else o (granted_span limits x.protocol)) (h bytes e)

-- so many bytes are those of the granted span
pub length_second : (limits : EpLimits) (x : SendingView) (n : ℕ) → IsSpanAfter limits x.message x.total x.given None → IsLengthNext limits x n → IfSome (granted_span limits x.protocol) (λ s. n ≡ s.length)
length_second limits x n h r =
    let bytes : List ℕ = replicate x.total 0 in
    let l : length bytes ≡ x.total = length-replicate x.total 0 in
    subst (λ (o : Option Span). IfSome o (λ (s : Span). n ≡ s.length)) (sym (span_second limits x (granted_span limits x.protocol) h refl bytes l)) (r bytes l)

-- a packet that is there comes first
opens : (p q : Option Packet) (s : Span) → Some s ≡ option_map span_of p → p ≡ or_else p q
unfolding or_else
opens None q s e = cc
opens (Some x) q s e = refl

-- the other comes where it is not
granted : (p q r : Option Packet) → None ≡ option_map span_of p → r ≡ q → r ≡ or_else p q
unfolding or_else
granted None q r e h = h
granted (Some x) q r e h = cc

-- the packet that opens the message is the next one
pub packet_first : (own : Connid) (limits : EpLimits) (x : SendingView) (s : Span) (piece : List ℕ) (p : Option Packet) → IsSpanAfter limits x.message x.total x.given (Some s) → IsPacketWith limits x.message x.total x.given piece p → IsPacketNext own limits x piece p
packet_first own limits x s piece p h w = λ bytes e fit.
    let after : Some s ≡ span_after limits x.message bytes x.given = h bytes e in
    let next : Some s ≡ span_next limits x bytes = span_first limits x s h bytes e in
    let fits : IfSome (span_after limits x.message bytes x.given) (λ t. piece ≡ part t bytes) =
    subst (λ (o : Option Span). IfSome o (λ (t : Span). piece ≡ part t bytes)) (sym next ∙ after) fit in
    w bytes e fits ∙ opens (packet_after limits x.message bytes x.given) (granted_by own bytes x.protocol (granted_span limits x.protocol)) s after

-- the packet of granted bytes is the next one
pub packet_second : (own : Connid) (limits : EpLimits) (x : SendingView) (piece : List ℕ) (p : Option Packet) → IsSpanAfter limits x.message x.total x.given None → ((bytes : List ℕ) → IfSome (granted_span limits x.protocol) (λ s. piece ≡ part s bytes) → p ≡ granted_by own bytes x.protocol (granted_span limits x.protocol)) → IsPacketNext own limits x piece p
packet_second own limits x piece p h w = λ bytes e fit.
    let after : None ≡ span_after limits x.message bytes x.given = h bytes e in
    let next : granted_span limits x.protocol ≡ span_next limits x bytes = span_second limits x (granted_span limits x.protocol) h refl bytes e in
    let fits : IfSome (granted_span limits x.protocol) (λ t. piece ≡ part t bytes) =
    subst (λ (o : Option Span). IfSome o (λ (t : Span). piece ≡ part t bytes)) (sym next) fit in
    granted (packet_after limits x.message bytes x.given) (granted_by own bytes x.protocol (granted_span limits x.protocol)) p after (w bytes fits)

-- a piece that is as long as the next span has the length of the next packet
pub length_is : (limits : EpLimits) (x : SendingView) (s : Span) (n : ℕ) → IsSpanNext limits x (Some s) → n ≡ s.length → IsLengthNext limits x n
length_is limits x s n h q = λ bytes e. subst (λ (o : Option Span). IfSome o (λ (t : Span). n ≡ t.length)) (h bytes e) q
