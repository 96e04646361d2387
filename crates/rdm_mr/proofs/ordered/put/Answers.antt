use Rattle.std.proofs.Common.{sym, subst, ◌∙◌, ap}
use Rattle.rdm_mr.specs.Ordered.{AreOfOne, fused}
use Rattle.rdm_mr.proofs.Fused.{same_insert, same_fused}
use Rattle.rdm_mr.proofs.ordered.put.Goals as goal

pub fuse-requires-clause-same : goal.fuse-requires-clause-same
fuse-requires-clause-same c = subst AreOfOne (sym c.in-Ok.ensures.items) (same_insert c.args.i c.args.part c.args.parts.now.items c.requires.same)

pub fuse-requires-then-i-gt0-clause-same : goal.fuse-requires-then-i-gt0-clause-same
fuse-requires-then-i-gt0-clause-same c =
    subst AreOfOne (sym (c.fuse.ensures.items ∙ ap (fused c.args.i) c.in-Ok.ensures.items)) (same_fused c.args.i _ (same_insert c.args.i c.args.part c.args.parts.now.items c.requires.same))
