use Rattle.std.proofs.Common.{sym, ◌∙◌}
use Rattle.rdm_pool.proofs.Search.{no_place}
use Rattle.rdm_pool.proofs.Marked.{has-marked, has-nowhere}
use Rattle.rdm_pool.proofs.places.has_mark.Goals as goal

pub returns-in-None : goal.returns-in-None
returns-in-None c = sym (has-nowhere c.args.places.now c.args.id.0 c.in-None.ensures.absent)

pub returns-then-places-at : goal.returns-then-places-at
returns-then-places-at c =
    let marked = has-marked c.args.places.now c.args.id.0 c.in-Some.at no_place c.requires c.in-Some.ensures.found in
    c.is_some.ensures ∙ sym (rw c.if-places-at.true at marked)

pub returns-else-places-at : goal.returns-else-places-at
returns-else-places-at c =
    let marked = has-marked c.args.places.now c.args.id.0 c.in-Some.at no_place c.requires c.in-Some.ensures.found in
    c.if-places-at.false ∙ sym (rw c.if-places-at.false at marked)
