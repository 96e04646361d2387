use Rattle.std.proofs.Common.{◌≡◌, ◌≢◌, set, Bool, sym, subst}
use Rattle.rdm_model.specs.Answers.{is_entry}
use Rattle.rdm_model.specs.declared.answer.Next.TheVariants as NextKind
use Rattle.rdm_model.specs.declared.job.Choice.TheVariants as ChoiceKind
use Rattle.rdm_world.specs.Views.{WorldView}
use Rattle.rdm_world.specs.Steps.{Steps}
use Rattle.rdm_world.proofs.Results.{ok_then}
use Rattle.rdm_world.proofs.NextSteps.{next_steps}
use Rattle.rdm_world.proofs.world.World.next.Goals as goal

pub returns-clause-does : goal.returns-clause-does
returns-clause-does c =
    let old : WorldView = record { ports = c.self.inside.ports.items; wire = c.self.inside.wire } in
    let new : WorldView = record old { ports = set old.ports c.args.rank c.next-answer.new.self } in
    let answer = c.next-answer.result in
    let within = rw (← c.self.view_is) at c.requires in
    let P : Bool → Type 0 = λ made. (made ≡ is_entry answer) × (answer ≢ NextKind.Memory) in
    let Q : Bool → Type 0 = λ made. Steps (ChoiceKind.Next c.args.rank) old new made in
    rw (← c.self.view_is)
    (ok_then P Q c.entered.result
    (λ made h. subst Q (sym h.0) (next_steps old c.args.rank c.index_mut.result.now c.next-answer.new.self answer within c.index_mut.ensures.value c.next-answer.ensures.does h.1)) c.entered.ensures)
