use Rattle.std.proofs.Common.{sym, ◌∙◌}
use Rattle.rdm_ep.specs.declared.state.Verdict.TheVariants.{Refuse, Message, Features}
use Rattle.rdm_ep.specs.Answers.{is_early}
use Rattle.rdm_ep.specs.Verdicts.{verdict_answer}
use Rattle.rdm_ep.proofs.Decided.{early_waits, early_of}
use Rattle.rdm_ep.proofs.endpoint.Endpoint.waits_early.Goals as goal

pub returns-in-Message : goal.returns-in-Message
returns-in-Message c =
    c.waits.ensures ∙ early_waits c.args.self.now c.in-Message.inbound
    ∙ early_of c.args.self.now c.args.d.now c.in-Between.from c.in-Between.to c.in-Between.load (Message c.in-Message.inbound) c.in-Between.is (sym c.in-Message.is ∙ c.in_ok-inbound.ensures)

pub returns-in-Refuse : goal.returns-in-Refuse
unfolding verdict_answer is_early
returns-in-Refuse c =
    early_of c.args.self.now c.args.d.now c.in-Between.from c.in-Between.to c.in-Between.load (Refuse c.in-Refuse._class) c.in-Between.is (sym c.in-Refuse.is ∙ c.in_ok-inbound.ensures)

pub returns-in-Features : goal.returns-in-Features
unfolding verdict_answer is_early
returns-in-Features c =
    early_of c.args.self.now c.args.d.now c.in-Between.from c.in-Between.to c.in-Between.load (Features c.in-Features._word) c.in-Between.is (sym c.in-Features.is ∙ c.in_ok-inbound.ensures)
