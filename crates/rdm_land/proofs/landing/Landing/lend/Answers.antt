use Rattle.std.proofs.Common.{◌-◌, length, min, sym, ap, subst, ◌∙◌, arith}
use Rattle.std.specs.declared.alloc.AllocError.{AllocError}
use Rattle.rdm_gaps.specs.Places.{Missing, with_range}
use Rattle.rdm_mr.specs.Tiles.{Tiles, AreHome, IsPartAt}
use Rattle.rdm_land.specs.Spans.{span, with_span}
use Rattle.rdm_land.proofs.SetRanges.{length-set}
use Rattle.rdm_land.proofs.Agreed.{agrees_along}
use Rattle.rdm_land.proofs.LandingViews.{fits_home, agrees_lent, taken_is, set_back}
use Rattle.rdm_land.proofs.landing.Landing.lend.Goals as goal

pub pick-requires-clause-home : goal.pick-requires-clause-home
pick-requires-clause-home c =
    let f = c.self.inside in
    let m = c.in_ok-claim.ensures.answer.0 c.if-not-branch.false in
    let count = c.min-count.ensures ∙ ap (λ n. min c.args.len (n - c.args.off)) c.len-capacity.ensures in
    subst (λ n. AreHome c.args.off n f.home.cells) (sym count) (fits_home _ _ _ c.self.invariant.agrees _ c.self.view_is c.args.off c.args.len m (omega (arith, c.if-capacity-off.false, c.len-capacity.ensures)))

pub of-requires : goal.of-requires
of-requires c =
    let m = c.in_ok-claim.ensures.answer.0 c.if-not-branch.false in
    omega (arith, m.0, c.self.invariant.fits, c.self.invariant.length_is)

pub invariant_of-self-in-Ok : goal.invariant_of-self-in-Ok
invariant_of-self-in-Ok c =
    let f = c.self.inside in
    let m = c.in_ok-claim.ensures.answer.0 c.if-not-branch.false in
    let count = c.min-count.ensures ∙ ap (λ n. min c.args.len (n - c.args.off)) c.len-capacity.ensures in
    let part = c.in-Ok.part in
    let is = subst (λ n. IsPartAt f.home c.args.off n part) count c.in-Ok.ensures.part in
    let home = c.in-Ok.ensures.ok.0 in
    let gaps = c.in-Ok.ensures.ok.1 in
    let places = ap (λ (x : Missing). x.places) gaps ∙ c.in_ok-claim.ensures.places ∙ ap (λ (x : Missing). x.places) (taken_is AllocError c.args.off c.args.len f.gaps c.in_ok-claim.field-0 c.if-not-branch.false) in
    let spans = c.put.ensures.items ∙ ap (λ s. with_span s c.claim.new.lent.items) c.of.ensures ∙ ap (with_span (span c.args.off c.args.len)) c.in_ok-claim.ensures.items in
    let long = ap length places ∙ length-set _ c.args.off c.args.len f.gaps.places m.0 in
    let out = ap (λ (t : Tiles). t.out) home in
    let spare = ap (λ (x : Missing). x.spare) gaps in
    record {
      fits = c.self.invariant.fits;
      length_is = c.self.invariant.length_is ∙ sym long;
      agrees = agrees_along places (ap (λ (t : Tiles). t.cells) home) spans
          (agrees_lent _ _ _ c.self.invariant.agrees _ c.self.view_is c.args.off c.args.len m part (omega (arith, c.if-len-eq0.false)) (omega (arith, c.if-capacity-off.false, c.len-capacity.ensures)) is);
      counted = omega (arith, out, c.self.invariant.counted, c.put.ensures.len, c.in_ok-claim.ensures.len);
      spare = omega (arith, spare, c.put.ensures.len, c.in_ok-claim.ensures.room.0);
    }

pub invariant_of-self-in-Err : goal.invariant_of-self-in-Err
invariant_of-self-in-Err c =
    let f = c.self.inside in
    let m = c.in_ok-claim.ensures.answer.0 c.if-not-branch.false in
    let home = c.in-Err.ensures.err.0 in
    let gaps = c.in-Err.ensures.err.1 in
    let taken = c.in_ok-claim.ensures.places ∙ ap (λ (x : Missing). x.places) (taken_is AllocError c.args.off c.args.len f.gaps c.in_ok-claim.field-0 c.if-not-branch.false) in
    let places = ap (λ (x : Missing). x.places) gaps ∙ ap (with_range _ c.args.off c.args.len) taken ∙ set_back c.args.off c.args.len f.gaps.places m in
    let out = ap (λ (t : Tiles). t.out) home in
    let spare = ap (λ (x : Missing). x.spare) gaps in
    record {
      fits = c.self.invariant.fits;
      length_is = c.self.invariant.length_is ∙ sym (ap length places);
      agrees = agrees_along places (ap (λ (t : Tiles). t.cells) home) c.in_ok-claim.ensures.items c.self.invariant.agrees;
      counted = omega (arith, out, c.self.invariant.counted, c.in_ok-claim.ensures.len);
      spare = omega (arith, spare, c.in_ok-claim.ensures.room.0);
    }

pub returns-in-Err-clause-after : goal.returns-in-Err-clause-after
returns-in-Err-clause-after c =
    let f = c.self.inside in
    let m = c.in_ok-claim.ensures.answer.0 c.if-not-branch.false in
    let home = c.in-Err.ensures.err.0 in
    let taken = c.in_ok-claim.ensures.places ∙ ap (λ (x : Missing). x.places) (taken_is AllocError c.args.off c.args.len f.gaps c.in_ok-claim.field-0 c.if-not-branch.false) in
    let places = ap (λ (x : Missing). x.places) c.in-Err.ensures.err.1 ∙ ap (with_range _ c.args.off c.args.len) taken ∙ set_back c.args.off c.args.len f.gaps.places m in
    (λ i. record { tiles = home i; missing = places i; lent = c.in_ok-claim.ensures.items i; room = c.self.inside.room }) ∙ c.self.view_is
