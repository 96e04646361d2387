use Rattle.std.proofs.Common.{◌≡◌, ◌≢◌, set, Bool, sym, subst}
use Rattle.rdm_model.specs.declared.answer.Push.TheVariants as PushKind
use Rattle.rdm_model.specs.declared.job.Choice.TheVariants as ChoiceKind
use Rattle.rdm_world.specs.Views.{WorldView}
use Rattle.rdm_world.specs.Answers.{is_pushed}
use Rattle.rdm_world.specs.Steps.{Steps}
use Rattle.rdm_world.proofs.Results.{ok_then}
use Rattle.rdm_world.proofs.PushSteps.{push_steps}
use Rattle.rdm_world.proofs.world.World.push.Goals as goal

pub returns-clause-does : goal.returns-clause-does
returns-clause-does c =
    let old : WorldView = record { ports = c.self.inside.ports.items; wire = c.self.inside.wire } in
    let new : WorldView = record { ports = set old.ports c.args.rank c.push-answer.new.self; wire = c.push-answer.new.wire } in
    let answer = c.push-answer.result in
    let within = rw (← c.self.view_is) at c.requires in
    let P : Bool → Type 0 = λ made. (made ≡ is_pushed answer) × (answer ≢ PushKind.Memory) in
    let Q : Bool → Type 0 = λ made. Steps (ChoiceKind.Push c.args.rank) old new made in
    rw (← c.self.view_is)
    (ok_then P Q c.pushed.result
    (λ made h. subst Q (sym h.0)
    (push_steps old c.push-answer.new.wire c.args.rank c.index_mut.result.now c.push-answer.new.self answer within c.index_mut.ensures.value c.push-answer.ensures.does c.push-answer.ensures.wire h.1))
    c.pushed.ensures)
