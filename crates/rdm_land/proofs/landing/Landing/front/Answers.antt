use Rattle.std.proofs.Common.{◌≡◌, List, min, slice_get, Some, None, sym, ap, subst, ◌∙◌}
use Rattle.rdm_land.specs.declared.spans.Span.{Span}
use Rattle.rdm_gaps.specs.Places.{lull}
use Rattle.rdm_land.specs.Landed.{Landed}
use Rattle.rdm_land.specs.Arrivals.{IsFront}
use Rattle.rdm_land.proofs.Fronts.{front_some, front_empty}
use Rattle.rdm_land.proofs.landing.Landing.front.Goals as goal

pub returns-in-Some : goal.returns-in-Some
returns-in-Some c =
    let f = c.self.inside in
    let is : slice_get f.lent.items 0 ≡ Some c.in-Some.span.now = ap (λ (l : List Span). slice_get l 0) (sym c.deref.ensures.value) ∙ sym c.in-Some.ensures.value in
    subst (IsFront c.args.self.now) (sym (c.min.ensures ∙ ap (λ k. min k c.in-Some.span.now.start) c.came_from-missing.ensures))
    (subst (λ (l : Landed). IsFront l (min (lull f.gaps.places) c.in-Some.span.now.start)) c.self.view_is
    (front_some f.home f.gaps.places f.room _ f.lent.items c.in-Some.span.now is c.self.invariant.agrees.apart))

pub returns-in-None : goal.returns-in-None
returns-in-None c =
    let f = c.self.inside in
    let is : slice_get f.lent.items 0 ≡ None = ap (λ (l : List Span). slice_get l 0) (sym c.deref.ensures.value) ∙ sym c.in-None.ensures.value in
    subst (IsFront c.args.self.now) (sym c.came_from-missing.ensures)
    (subst (λ (l : Landed). IsFront l (lull f.gaps.places)) c.self.view_is
    (front_empty f.home f.gaps.places f.room 0 f.lent.items is))
