use Rattle.std.proofs.Common.{◌∙◌, ◌++◌, ap}
use Rattle.rdm_owed.specs.Owing.{Owing}
use Rattle.rdm_answers.specs.declared.answer.Answer.{Answer}
use Rattle.rdm_answers.specs.Answers.{replies_for}
use Rattle.rdm_answers.specs.Owing.{owed_in, have_items}
use Rattle.rdm_answers.proofs.Queues.{owed_after, items_after}
use Rattle.rdm_answers.proofs.replies.Replies.push.Goals as goal

pub returns-clause-owed : goal.returns-clause-owed
returns-clause-owed c own bytes_of =
    ap (λ (x : Owing Answer). owed_in own bytes_of x.owed) c.push.ensures
    ∙ owed_after own bytes_of c.self.inside.answers.owed (record { to = c.args.to; answer = c.args.answer })
    ∙ ap (λ (x : Owing Answer). owed_in own bytes_of x.owed ++ replies_for own bytes_of c.args.to c.args.answer) c.self.view_is

pub invariant_of-self : goal.invariant_of-self
invariant_of-self c = ap (λ (x : Owing Answer). have_items x.owed) c.push.ensures ∙ items_after c.self.inside.answers.owed _ c.self.invariant c.requires.item
