use Rattle.std.proofs.Common.{◌<◌, length, sym, subst}
use Rattle.rdm_inbox.proofs.Rules.{leaves_as}
use Rattle.rdm_inbox.proofs.inbox.Inbox.part.Goals as goal

pub another-requires-clause-rule : goal.another-requires-clause-rule
another-requires-clause-rule c = leaves_as _ _ c.pass.invariant.0 (subst (λ r. 0 < length r.post.known) (sym c.pass.view_is) c.requires.some)
