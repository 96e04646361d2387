use Rattle.std.proofs.Common.{◌∙◌, ap, [], ◌∷◌}
use Rattle.rdm_model.specs.Replies.{without_lives}
use Rattle.rdm_owed.specs.Owing.{Owing}
use Rattle.rdm_answers.specs.declared.answer.Answer.{Answer}
use Rattle.rdm_answers.specs.Owing.{owed_in, have_items}
use Rattle.rdm_answers.proofs.Queues.{owed_without, items_without}
use Rattle.rdm_answers.proofs.replies.Replies.forget.Goals as goal

pub returns-clause-owed : goal.returns-clause-owed
returns-clause-owed c own bytes_of =
    ap (λ (x : Owing Answer). owed_in own bytes_of x.owed) c.forget.ensures
    ∙ owed_without own bytes_of c.args.life c.self.inside.answers.owed
    ∙ ap (λ (x : Owing Answer). without_lives (c.args.life ∷ []) (owed_in own bytes_of x.owed)) c.self.view_is

pub invariant_of-self : goal.invariant_of-self
invariant_of-self c = ap (λ (x : Owing Answer). have_items x.owed) c.forget.ensures ∙ items_without _ c.self.inside.answers.owed c.self.invariant
