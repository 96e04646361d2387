use Rattle.std.proofs.Common.{◌≡◌, length, Option, subst, arith}
use Rattle.rdm_num.specs.declared.limits.EpLimits.{EpLimits}
use Rattle.rdm_tx.specs.declared.spans.Span.{Span}
use Rattle.rdm_sends.specs.Pushing.{IsSpanNext}
use Rattle.rdm_sends.proofs.Pushing.{length_is}
use Rattle.rdm_sends.proofs.tests.spelled.Goals as goal

pub packet-requires-clause-length : goal.packet-requires-clause-length
packet-requires-clause-length g c =
    let limits : EpLimits = record { mtu = 256; medium = 600; read_limit = 2000; runt = 300; credits = 2; first = 0; tx = 64; rx = 64; early = 64; cq = 128 } in
    let same : length c.expect-piece.result.now ≡ c.expect-span.result.length = omega arith in
    length_is limits c.args.sending.now c.expect-span.result (length c.expect-piece.result.now)
    (subst (λ (o : Option Span). IsSpanNext limits c.args.sending.now o) c.expect-span.ensures c.span.ensures.span) same
