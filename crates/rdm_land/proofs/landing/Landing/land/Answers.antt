use Rattle.std.proofs.Common.{refl, sym, ap, subst, ◌∙◌, arith}
use Rattle.std.specs.List.{Contains}
use Rattle.rdm_land.specs.Spans.{without_span}
use Rattle.rdm_mr.specs.Tiles.{Tiles}
use Rattle.rdm_land.proofs.Agreed.{agrees_along}
use Rattle.rdm_land.proofs.LandingViews.{some_bytes, is_out, there, ends_inside, agrees_landed}
use Rattle.rdm_land.proofs.landing.Landing.land.Goals as goal

pub put_back-requires-clause-some : goal.put_back-requires-clause-some
put_back-requires-clause-some c = some_bytes _ _ _ c.self.invariant.agrees _ c.self.view_is c.args.off c.args.len c.args.part c.requires

pub put_back-requires-clause-out : goal.put_back-requires-clause-out
put_back-requires-clause-out c = is_out _ _ _ c.self.invariant.agrees _ c.self.view_is c.args.off c.args.len c.args.part c.requires

pub of-requires : goal.of-requires
of-requires c =
    let inside = ends_inside _ _ _ c.self.invariant.agrees _ c.self.view_is c.args.off c.args.len c.args.part c.requires in
    omega (arith, inside, c.self.invariant.fits, c.self.invariant.length_is)

pub remove-requires-clause-there : goal.remove-requires-clause-there
remove-requires-clause-there c = subst (Contains c.self.inside.lent.items) (sym c.of.ensures) (there _ _ _ c.self.invariant.agrees _ c.self.view_is c.args.off c.args.len c.args.part c.requires)

pub invariant_of-self : goal.invariant_of-self
invariant_of-self c =
    let agrees = agrees_landed _ _ _ c.self.invariant.agrees _ c.self.view_is c.args.off c.args.len c.args.part c.requires in
    let out = ap (λ (t : Tiles). t.out) c.put_back.ensures in
    record {
      fits = c.self.invariant.fits;
      length_is = c.self.invariant.length_is;
      agrees = agrees_along refl (ap (λ (t : Tiles). t.cells) c.put_back.ensures) (c.remove.ensures.items ∙ ap (λ s. without_span s c.self.inside.lent.items) c.of.ensures) agrees;
      counted = omega (arith, out, c.self.invariant.counted, c.remove.ensures.len);
      spare = omega (arith, c.self.invariant.spare, c.remove.ensures.len);
    }
