use Rattle.std.proofs.Common.{set, Bool, sym, subst}
use Rattle.rdm_model.specs.declared.job.Choice.TheVariants as ChoiceKind
use Rattle.rdm_world.specs.Views.{WorldView}
use Rattle.rdm_world.specs.Steps.{Steps}
use Rattle.rdm_world.proofs.PollSteps.{poll_steps}
use Rattle.rdm_world.proofs.world.World.poll.Goals as goal

pub returns-clause-does : goal.returns-clause-does
returns-clause-does c =
    let old : WorldView = record { ports = c.self.inside.ports.items; wire = c.self.inside.wire } in
    let new : WorldView = record old { ports = set old.ports c.args.rank c.poll-answer.new.self } in
    let within = rw (← c.self.view_is) at c.requires in
    let Q : Bool → Type 0 = λ made. Steps (ChoiceKind.Poll c.args.rank) old new made in
    rw (← c.self.view_is)
    (subst Q (sym c.polled.ensures) (poll_steps old c.args.rank c.index_mut.result.now c.poll-answer.new.self c.poll-answer.result within c.index_mut.ensures.value c.poll-answer.ensures.does))
