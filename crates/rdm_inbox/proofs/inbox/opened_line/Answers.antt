use Rattle.std.proofs.Common.{sym, subst}
use Rattle.crossbeam_queue.specs.Fifo.{Forks}
use Rattle.rdm_inbox.specs.declared.post.Post.TheVariants.{Nobody}
use Rattle.rdm_inbox.specs.Letters.{Letters, opened}
use Rattle.rdm_inbox.proofs.Wholes.{begins, opens}
use Rattle.rdm_inbox.proofs.inbox.opened_line.Goals as goal

pub ruled-requires-clause-rule : goal.ruled-requires-clause-rule
ruled-requires-clause-rule g c = begins

pub another-requires-clause-rule : goal.another-requires-clause-rule
another-requires-clause-rule g c =
    let pass = c.in_ok-line.pass.id in let J = g.J.Address in
    subst (λ v. Forks Letters pass v (opened J.port J.ports J.size) Nobody) (sym c.in_ok-line.ensures.3) (opens pass J.port J.ports J.size)
