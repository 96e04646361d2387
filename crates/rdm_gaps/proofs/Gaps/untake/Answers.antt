use Rattle.std.proofs.Common.{◌-◌, length, sym, ap, subst, ◌∙◌, arith}
use Rattle.rdm_gaps.specs.Places.{Missing, with_untaken}
use Rattle.rdm_gaps.specs.Ranges.{places_of, AreApart, total}
use Rattle.rdm_gaps.proofs.Covered.{length-places_of}
use Rattle.rdm_gaps.proofs.Untakes.{put_is, total_fits}
use Rattle.rdm_gaps.proofs.Gaps.untake.Goals as goal

pub overflow_add-end : goal.overflow_add-end
overflow_add-end c =
    let size = length-places_of 0 c.self.inside.size c.self.inside.gaps.items c.self.invariant.apart in
    let places = ap (λ (m : Missing). length m.places) c.self.view_is in
    record { fits = omega (arith, size, places, c.requires.taken.0, c.self.invariant.fits) }

pub overflow_add-self : goal.overflow_add-self
overflow_add-self c =
    let g = c.self.inside in
    let put = put_is g.size c.args.off c.args.len g.gaps.items c.args.self.now (ap (λ (m : Missing). m.places) c.self.view_is) c.self.invariant.apart c.requires.some c.requires.taken c.find-i.result _ c.deref.ensures.value c.find-i.ensures.within c.find-i.ensures.before c.find-i.ensures.after in
    let le = total_fits g.size _ put.apart in
    record { fits = omega (arith, put.count, le, c.self.invariant.left, c.self.invariant.fits) }

pub invariant_of-self : goal.invariant_of-self
invariant_of-self c =
    let g = c.self.inside in
    let put = put_is g.size c.args.off c.args.len g.gaps.items c.args.self.now (ap (λ (m : Missing). m.places) c.self.view_is) c.self.invariant.apart c.requires.some c.requires.taken c.find-i.result _ c.deref.ensures.value c.find-i.ensures.within c.find-i.ensures.before c.find-i.ensures.after in
    record {
      fits = c.self.invariant.fits;
      apart = subst (AreApart 0 g.size) (sym c.put.ensures.items) put.apart;
      left = let e = ap total c.put.ensures.items in omega (arith, e, put.count, c.self.invariant.left);
      room = let spare = ap (λ (m : Missing). m.spare) c.self.view_is in omega (arith, c.put.ensures.more, c.put.ensures.capacity, c.self.invariant.room, c.requires.room, spare);
    }

pub returns : goal.returns
returns c =
    let g = c.self.inside in
    let put = put_is g.size c.args.off c.args.len g.gaps.items c.args.self.now (ap (λ (m : Missing). m.places) c.self.view_is) c.self.invariant.apart c.requires.some c.requires.taken c.find-i.result _ c.deref.ensures.value c.find-i.ensures.within c.find-i.ensures.before c.find-i.ensures.after in
    ap (λ l. record { places = l; spare = g.spare - 1 }) (ap (places_of 0 g.size) c.put.ensures.items ∙ put.places) ∙ ap (λ m. with_untaken m c.args.off c.args.len) c.self.view_is
