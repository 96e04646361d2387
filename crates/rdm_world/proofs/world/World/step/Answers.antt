use Rattle.std.proofs.Common.{Bool, sym, subst, IfOk}
use Rattle.rdm_model.specs.declared.job.Choice.{Choice}
use Rattle.rdm_model.specs.declared.job.Choice.TheVariants as ChoiceKind
use Rattle.rdm_world.specs.Steps.{Enters, Steps}
use Rattle.rdm_world.proofs.Entering.{next_enters, push_enters, poll_enters}
use Rattle.rdm_world.proofs.Results.{ok_then}
use Rattle.rdm_world.proofs.world.World.step.Goals as goal

pub returns-in-Next-clause-does : goal.returns-in-Next-clause-does
returns-in-Next-clause-does c =
    ok_then (Steps (ChoiceKind.Next c.in-Next.rank) c.args.self.now c.next.new.self) (Enters c.args.choice c.args.self.now c.next.new.self) c.next.result
    (λ b s. subst (λ (k : Choice). Enters k c.args.self.now c.next.new.self b) (sym c.in-Next.is) (next_enters c.in-Next.rank c.args.self.now c.next.new.self b s)) c.next.ensures.does

pub returns-in-Push-clause-does : goal.returns-in-Push-clause-does
returns-in-Push-clause-does c =
    ok_then (Steps (ChoiceKind.Push c.in-Push.rank) c.args.self.now c.push.new.self) (Enters c.args.choice c.args.self.now c.push.new.self) c.push.result
    (λ b s. subst (λ (k : Choice). Enters k c.args.self.now c.push.new.self b) (sym c.in-Push.is) (push_enters c.in-Push.rank c.args.self.now c.push.new.self b s)) c.push.ensures.does

pub returns-in-Poll-clause-does : goal.returns-in-Poll-clause-does
returns-in-Poll-clause-does c =
    subst (λ (k : Choice). Enters k c.args.self.now c.poll.new.self c.poll.result) (sym c.in-Poll.is)
    (poll_enters c.in-Poll.rank c.args.self.now c.poll.new.self c.poll.result c.poll.ensures.does)
