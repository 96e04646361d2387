use Rattle.std.proofs.Common.{◌≡◌, sym, subst}
use Rattle.rdm_inbox.proofs.Steps.{learns}
use Rattle.rdm_inbox.proofs.Rules.{sends_as}
use Rattle.rdm_inbox.proofs.inbox.Inbox.send.Goals as goal

pub push-requires-clause-rule : goal.push-requires-clause-rule
push-requires-clause-rule g c =
    let to = subst (λ s. (c.args.d.src.0 ≡ s.post.from) × (c.args.d.dst.0 ≡ s.post.port)) (sym c.pass.view_is) c.requires.addressed in
    (sends_as _ _ _ c.args.d c.pass.invariant.0 to.0 to.1, learns _ _)
