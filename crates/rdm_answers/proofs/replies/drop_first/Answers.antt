use Rattle.std.proofs.Common.{◌∙◌, ap, sym}
use Rattle.rdm_owed.specs.Owing.{Owing}
use Rattle.rdm_answers.specs.declared.answer.Answer.{Answer}
use Rattle.rdm_answers.proofs.Queues.{none_sent, sent_whole, sent_part}
use Rattle.rdm_answers.proofs.replies.drop_first.Goals as goal

pub returns-in_default-clause-owed : goal.returns-in_default-clause-owed
returns-in_default-clause-owed c = none_sent c.args.answers.now.owed c.copied.result (c.copied.ensures ∙ c.first.ensures) c.in_default.not-Some

pub returns-in-Some-left-clause-items : goal.returns-in-Some-left-clause-items
returns-in-Some-left-clause-items c =
    (sent_part c.args.answers.now.owed c.replace_first.new.self.owed c.in-Some.first c.in-Some-left.left (sym (c.copied.ensures ∙ c.first.ensures) ∙ c.in-Some.is) c.requires
    c.in-Some-left.ensures.left c.in-Some-left.ensures.items (ap (λ (x : Owing Answer). x.owed) c.replace_first.ensures)).0

pub returns-in-Some-left-clause-owed : goal.returns-in-Some-left-clause-owed
returns-in-Some-left-clause-owed c =
    (sent_part c.args.answers.now.owed c.replace_first.new.self.owed c.in-Some.first c.in-Some-left.left (sym (c.copied.ensures ∙ c.first.ensures) ∙ c.in-Some.is) c.requires
    c.in-Some-left.ensures.left c.in-Some-left.ensures.items (ap (λ (x : Owing Answer). x.owed) c.replace_first.ensures)).1

pub returns-in-None-clause-owed : goal.returns-in-None-clause-owed
returns-in-None-clause-owed c =
    (sent_whole c.args.answers.now.owed c.pop.new.self.owed c.in-Some.first (sym (c.copied.ensures ∙ c.first.ensures) ∙ c.in-Some.is) c.requires
    c.in-None.ensures.left (ap (λ (x : Owing Answer). x.owed) c.pop.ensures.after)).1
