use Rattle.std.proofs.Common.{◌≤◌, sym, ◌∙◌, subst}
use Rattle.rdm_port.specs.Kept.{Kept}
use Rattle.rdm_port.specs.Machine.{machine_answer}
use Rattle.rdm_port.proofs.NextRoom.{worn_answer, worn_entry}
use Rattle.rdm_port.proofs.steps.answer_now.Goals as goal

pub returns-then-state-ge-STAMP_MAX-clause-says : goal.returns-then-state-ge-STAMP_MAX-clause-says
returns-then-state-ge-STAMP_MAX-clause-says c = λ v n l.
    worn_answer c.args.state.now c.answer-answer.result (machine_answer v c.args.state.now c.args.instr.now) (c.answer-answer.ensures.says v n l)
    (sym c.is_entry.ensures ∙ c.if-is_entry.true) (subst (λ (k : Kept). 9223372036854775807 ≤ k.clock) c.state.view_is c.if-state-ge-STAMP_MAX.true)

pub returns-then-state-ge-STAMP_MAX-clause-spared : goal.returns-then-state-ge-STAMP_MAX-clause-spared
returns-then-state-ge-STAMP_MAX-clause-spared c = λ v t.
    worn_entry c.args.state.now c.answer-answer.result (machine_answer v c.args.state.now c.args.instr.now) (c.answer-answer.ensures.spared v t)
    (sym c.is_entry.ensures ∙ c.if-is_entry.true) (subst (λ (k : Kept). 9223372036854775807 ≤ k.clock) c.state.view_is c.if-state-ge-STAMP_MAX.true)
