use Rattle.std.proofs.Common.{refl, ap, sym, ◌∙◌, Err, Ok}
use Rattle.rdm_av.specs.Lives.{with_spent, after_insert}
use Rattle.rdm_av.proofs.HeldLives.{spent_room}
use Rattle.rdm_av.proofs.Answered.{after_refusal, after_reserved}
use Rattle.rdm_av.proofs.Av.insert.Goals as goal

pub returns-in_err-reserve-clause-after : goal.returns-in_err-reserve-clause-after
returns-in_err-reserve-clause-after c =
    c.in_err-reserve.ensures.err ∙ sym (after_refusal c.args.self.now c.args.life c.from_residual.result c.from_residual.ensures.0)

pub returns-in_err-insert_reserved-clause-after : goal.returns-in_err-insert_reserved-clause-after
returns-in_err-insert_reserved-clause-after c =
    c.in_err-insert_reserved.ensures.after
    ∙ ap with_spent (after_refusal c.reserve.new.self c.args.life (Err c.in_err-insert_reserved.field-0.0) refl)
    ∙ ap with_spent c.in_ok-reserve.ensures.ok
    ∙ spent_room c.args.self.now
    ∙ sym (after_refusal c.args.self.now c.args.life c.from_residual-in_err-insert_reserved.result c.from_residual-in_err-insert_reserved.ensures.0)

pub returns-clause-after : goal.returns-clause-after
returns-clause-after c =
    c.in_ok-insert_reserved.ensures.after
    ∙ ap (λ s. with_spent (after_insert s c.args.life (Ok c.in_ok-insert_reserved.field-0))) c.in_ok-reserve.ensures.ok
    ∙ after_reserved _ _ c.args.self.now c.args.life c.in_ok-insert_reserved.field-0
