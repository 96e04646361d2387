use Rattle.std.proofs.Common.{Some, subst}
use Rattle.rdm_sends.specs.contracts.sending.Sending.{the_view}
use Rattle.rdm_sends.specs.Sending.{SendingView}
use Rattle.rdm_sends.specs.Pushing.{IsSpanNext}
use Rattle.rdm_sends.proofs.Pushing as lemmas
use Rattle.rdm_sends.proofs.sending.Sending.span.Goals as goal

pub returns-in-Some-clause-span : goal.returns-in-Some-clause-span
returns-in-Some-clause-span c =
    subst (λ (v : SendingView). IsSpanNext c.args.limits.now v (Some c.in-Some.span)) c.self.view_is
    (lemmas.span_first c.args.limits.now (the_view c.self.inside) c.in-Some.span c.in-Some.ensures.span)

pub returns-in-None-clause-span : goal.returns-in-None-clause-span
returns-in-None-clause-span c =
    subst (λ (v : SendingView). IsSpanNext c.args.limits.now v c.span-in-None.result) c.self.view_is
    (lemmas.span_second c.args.limits.now (the_view c.self.inside) c.span-in-None.result c.in-None.ensures.span c.span-in-None.ensures.span)
