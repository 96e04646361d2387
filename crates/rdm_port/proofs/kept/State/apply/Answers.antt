use Rattle.std.proofs.Common.{◌≡◌, subst}
use Rattle.rdm_model.specs.declared.job.Instr.{Instr}
use Rattle.rdm_model.specs.declared.answer.Next.TheVariants.{Did}
use Rattle.rdm_port.specs.Machine.{machine_answer}
use Rattle.rdm_port.proofs.NextSpares.{cancel_waits}
use Rattle.rdm_port.proofs.kept.State.apply.Goals as goal

pub returns-in-Cancel-clause-spared : goal.returns-in-Cancel-clause-spared
returns-in-Cancel-clause-spared c = λ t v what d.
    let w = cancel_waits v c.args.self.now c.in-Cancel.recv what (subst (λ (i : Instr). machine_answer v c.args.self.now i ≡ Did what) c.in-Cancel.is d) in
    c.cancel.ensures.spared w.0 w.1 w.2
