use Rattle.std.proofs.Common.{◌≡◌, ℕ, ◌<◌, ◌++◌, sym, ap, ◌∙◌, subst, length}
use Rattle.rdm_inbox.specs.Senders.{from_port, list_at}
use Rattle.rdm_inbox.specs.Letters.{settled}
use Rattle.rdm_inbox.specs.Passes.{IsReader, post_of, reader_of}
use Rattle.rdm_inbox.proofs.Steps.{learns}
use Rattle.rdm_inbox.proofs.Rules.{settles_as, settle_answer}
use Rattle.rdm_inbox.proofs.inbox.Inbox.settle.Goals as goal

pub learn_as-requires-clause-rule : goal.learn_as-requires-clause-rule
learn_as-requires-clause-rule c = learns _ _

pub another-requires-clause-rule : goal.another-requires-clause-rule
another-requires-clause-rule c =
    let same = c.learn_as.ensures.queue.1 in
    settles_as _ _ (subst IsReader (sym same) c.pass.invariant.0) (subst (λ v. length (reader_of v).known ≡ (reader_of v).ports) (sym same) (subst (λ r. length r.post.known ≡ r.post.ports) (sym c.pass.view_is) c.requires.whole))

pub returns-clause-left : goal.returns-clause-left
returns-clause-left c =
    subst (λ r. (p : ℕ) → p < r.post.ports → from_port p r.post.taken ++ list_at (reader_of (post_of c.another.new.pass)).known p ≡ list_at r.post.known p) c.pass.view_is
    (settle_answer (post_of c.pass.inside.pass) (post_of c.another.new.pass) c.learn_as.ensures.rule.0 c.pass.invariant.0 (subst (λ r. length r.post.known ≡ r.post.ports) (sym c.pass.view_is) c.requires.whole) c.learn_as.ensures.rule.1
    (c.another.ensures.rule.0 ∙ ap settled c.learn_as.ensures.queue.1))
