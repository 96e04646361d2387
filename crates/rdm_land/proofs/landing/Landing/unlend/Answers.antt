use Rattle.std.proofs.Common.{length, sym, ap, ◌∙◌, arith, subst}
use Rattle.rdm_gaps.specs.Places.{Missing}
use Rattle.std.specs.List.{Contains}
use Rattle.rdm_land.specs.Spans.{without_span}
use Rattle.rdm_mr.specs.Tiles.{Tiles}
use Rattle.rdm_land.proofs.Agreed.{agrees_along}
use Rattle.rdm_land.proofs.SetRanges.{length-set}
use Rattle.rdm_land.proofs.LandingViews.{some_bytes, some_places, is_out, there, ends_inside, is_taken, agrees_unlent}
use Rattle.rdm_land.proofs.landing.Landing.unlend.Goals as goal

pub put_back-requires-clause-some : goal.put_back-requires-clause-some
put_back-requires-clause-some c = some_bytes _ _ _ c.self.invariant.agrees _ c.self.view_is c.args.off c.args.len c.args.part c.requires

pub put_back-requires-clause-out : goal.put_back-requires-clause-out
put_back-requires-clause-out c = is_out _ _ _ c.self.invariant.agrees _ c.self.view_is c.args.off c.args.len c.args.part c.requires

pub of-span-requires : goal.of-span-requires
of-span-requires c =
    let inside = ends_inside _ _ _ c.self.invariant.agrees _ c.self.view_is c.args.off c.args.len c.args.part c.requires in
    omega (arith, inside, c.self.invariant.fits, c.self.invariant.length_is)

pub remove-requires-clause-there : goal.remove-requires-clause-there
remove-requires-clause-there c = subst (Contains c.self.inside.lent.items) (sym c.of-span.ensures) (there _ _ _ c.self.invariant.agrees _ c.self.view_is c.args.off c.args.len c.args.part c.requires)

pub untake-requires-clause-some : goal.untake-requires-clause-some
untake-requires-clause-some c = some_places _ _ _ c.self.invariant.agrees _ c.self.view_is c.args.off c.args.len c.args.part c.requires

pub untake-requires-clause-taken : goal.untake-requires-clause-taken
untake-requires-clause-taken c = is_taken _ _ _ c.self.invariant.agrees _ c.self.view_is c.args.off c.args.len c.args.part c.requires

pub invariant_of-self : goal.invariant_of-self
invariant_of-self c =
    let f = c.self.inside in
    let agrees = agrees_unlent _ _ _ c.self.invariant.agrees _ c.self.view_is c.args.off c.args.len c.args.part c.requires in
    let taken = is_taken _ _ _ c.self.invariant.agrees _ c.self.view_is c.args.off c.args.len c.args.part c.requires in
    let out = ap (λ (t : Tiles). t.out) c.put_back.ensures in
    let places = ap (λ (m : Missing). m.places) c.untake.ensures in
    let spare = ap (λ (m : Missing). m.spare) c.untake.ensures in
    let long = ap length places ∙ length-set _ c.args.off c.args.len f.gaps.places taken.0 in
    record {
      fits = c.self.invariant.fits;
      length_is = c.self.invariant.length_is ∙ sym long;
      agrees = agrees_along places (ap (λ (t : Tiles). t.cells) c.put_back.ensures) (c.remove.ensures.items ∙ ap (λ s. without_span s c.self.inside.lent.items) c.of-span.ensures) agrees;
      counted = omega (arith, out, c.self.invariant.counted, c.remove.ensures.len);
      spare = omega (arith, spare, c.self.invariant.spare, c.remove.ensures.len);
    }
