use Rattle.std.proofs.Common.{ap}
use Rattle.rdm_window.proofs.Forgotten.{none_from_first, first_is_held, none_beside_first}
use Rattle.rdm_window.proofs.early.Early.first_of.Goals as goal
use Rattle.rdm_window.proofs.early.Early.first_of.Goals.{else-port-life-via-then-port-life+else-connid-life, else-port-life-via-else-port-life}

pub returns-in_err-first : goal.returns-in_err-first
returns-in_err-first c =
    rw c.from_residual.ensures (none_from_first _ c.self.inside.messages _ c.self.view_is c.args.life c.range.result (rw c.key.ensures at (c.range.ensures.in_range tt)) c.in_err-first.ensures.steps.0)

pub returns-then-connid-life : goal.returns-then-connid-life
returns-then-connid-life c =
    first_is_held _ c.self.inside.messages _ c.self.view_is c.args.life c.range.result _ _ (rw c.key.ensures at (c.range.ensures.in_range tt)) c.in_ok-first.ensures.steps c.if-port-life.true c.if-connid-life.true

pub returns-else-port-life : goal.returns-else-port-life
returns-else-port-life c =
    none_beside_first _ c.self.inside.messages _ c.self.view_is c.args.life c.range.result _ _ (rw c.key.ensures at (c.range.ensures.in_range tt)) c.in_ok-first.ensures.steps (λ same.
    elim c.else-port-life.branch [
      | else-port-life-via-then-port-life+else-connid-life w ↦ w.if-connid-life.false (ap (λ l. l.1) same)
      | else-port-life-via-else-port-life w ↦ w.if-port-life.false (ap (λ l. l.0) same)
    ])
