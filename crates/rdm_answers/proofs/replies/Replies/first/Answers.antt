use Rattle.std.proofs.Common.{◌∙◌, ap, sym, option_copied}
use Rattle.rdm_owed.specs.Owing.{Owing}
use Rattle.rdm_answers.specs.declared.answer.Answer.{Answer}
use Rattle.rdm_answers.proofs.Queues.{leads_owed, none_leads}
use Rattle.rdm_answers.proofs.replies.Replies.first.Goals as goal

pub returns-in-Some : goal.returns-in-Some
returns-in-Some c =
    leads_owed c.args.own c.args.features c.self.inside.answers.owed c.args.self.now.owed c.in-Some.owed.now c.first_of.result
    (ap (λ (x : Owing Answer). x.owed) c.self.view_is) (sym c.first.ensures ∙ ap option_copied c.in-Some.is) c.self.invariant c.first_of.ensures

pub returns-in-None : goal.returns-in-None
returns-in-None c =
    none_leads c.args.own c.args.features c.self.inside.answers.owed c.args.self.now.owed
    (ap (λ (x : Owing Answer). x.owed) c.self.view_is) (sym c.first.ensures ∙ ap option_copied c.in-None.is)
