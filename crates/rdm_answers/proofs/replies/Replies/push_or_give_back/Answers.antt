use Rattle.std.proofs.Common.{◌∙◌, ap, sym, append-nil}
use Rattle.rdm_owed.specs.Owing.{Owing}
use Rattle.rdm_answers.specs.declared.answer.Answer.{Answer}
use Rattle.rdm_answers.specs.Answers.{replies_by}
use Rattle.rdm_answers.specs.Owing.{owed_in}
use Rattle.rdm_answers.proofs.replies.Replies.push_or_give_back.Goals as goal

pub returns-in-Some-clause-owed : goal.returns-in-Some-clause-owed
unfolding replies_by
returns-in-Some-clause-owed c own bytes_of = rw c.in-Some.is (c.push.ensures.owed own bytes_of)

pub returns-in-None-clause-owed : goal.returns-in-None-clause-owed
unfolding replies_by
returns-in-None-clause-owed c own bytes_of =
    rw c.in-None.is (ap (λ (x : Owing Answer). owed_in own bytes_of x.owed) c.give_back.ensures ∙ sym (append-nil (owed_in own bytes_of c.args.self.now.owed)))
