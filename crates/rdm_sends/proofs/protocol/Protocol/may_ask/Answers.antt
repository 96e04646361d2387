use Rattle.std.proofs.Common.{◌+◌, ◌≤◌, sym, subst}
use Rattle.rdm_sends.specs.declared.protocol.Protocol.{Protocol}
use Rattle.rdm_sends.specs.declared.protocol.Protocol.TheVariants.{Read}
use Rattle.rdm_sends.specs.Sending.{length_by}
use Rattle.rdm_sends.proofs.Coming.{ask_within}
use Rattle.rdm_sends.proofs.protocol.Protocol.may_ask.Goals as goal

pub returns-in-Read-clause-within : goal.returns-in-Read-clause-within
returns-in-Read-clause-within c = λ total t.
    subst (λ (p : Protocol). c.args.ask.now.at + c.args.ask.now.length ≤ length_by total p) (sym c.in-Read.is)
    (ask_within c.args.ask.now (Read c.in-Read.asked) total (c.may_ask.ensures.0 t))
