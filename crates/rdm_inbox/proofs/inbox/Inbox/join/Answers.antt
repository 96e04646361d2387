use Rattle.std.proofs.Common.{ap, sym, ◌∙◌, length}
use Rattle.rdm_inbox.proofs.Rules.{joins_as}
use Rattle.rdm_inbox.proofs.inbox.Inbox.join.Goals as goal

pub absorb-requires-clause-rule : goal.absorb-requires-clause-rule
absorb-requires-clause-rule c =
    joins_as _ _ _ _ c.pass.invariant.0 c.next.invariant.0 (ap (λ s. s.post.from) c.next.view_is ∙ (c.requires.next ∙ sym (ap (λ r. length r.post.known) c.pass.view_is)))
