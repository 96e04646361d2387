use Rattle.std.proofs.Common.{length, refl, sym, ap, ◌∙◌, arith}
use Rattle.rdm_gaps.specs.Places.{Missing}
use Rattle.rdm_mr.specs.Tiles.{Tiles}
use Rattle.rdm_land.specs.Landed.{Landed}
use Rattle.rdm_land.proofs.SetRanges.{length-set}
use Rattle.rdm_land.proofs.Agreed.{agrees_along}
use Rattle.rdm_land.proofs.LandingViews.{fits_home, agrees_placed, taken_reserved_is}
use Rattle.rdm_land.proofs.landing.Landing.fill.Goals as goal

pub write-requires : goal.write-requires
write-requires c lt = fits_home _ _ _ c.self.invariant.agrees _ c.self.view_is c.args.off (length c.args.bytes.now) (c.take_reserved.ensures.answer.0 c.if-not-take_reserved.false) lt

pub invariant_of-self-2 : goal.invariant_of-self-2
invariant_of-self-2 c =
    let f = c.self.inside in
    let m = c.take_reserved.ensures.answer.0 c.if-not-take_reserved.false in
    let len = length c.args.bytes.now in
    let left = c.take_reserved.ensures.after ∙ taken_reserved_is c.args.off len f.gaps c.take_reserved.result c.if-not-take_reserved.false in
    let places = ap (λ (x : Missing). x.places) left in
    let long = ap length places ∙ length-set _ c.args.off len f.gaps.places m.0 in
    let out = ap (λ (t : Tiles). t.out) c.write.ensures in
    let spare = ap (λ (x : Missing). x.spare) left in
    let room = ap (λ (l : Landed). l.room) c.self.view_is in
    record {
      fits = c.self.invariant.fits;
      length_is = c.self.invariant.length_is ∙ sym long;
      agrees = agrees_along places (ap (λ (t : Tiles). t.cells) c.write.ensures) refl (agrees_placed _ _ _ c.self.invariant.agrees _ c.self.view_is c.args.off c.args.bytes.now m);
      counted = out ∙ c.self.invariant.counted;
      spare = omega (arith, spare, room, c.requires, c.self.invariant.spare);
    }
