use Rattle.std.proofs.Common.{true, ◌-◌, refl, sym, ap, subst, ◌∙◌, arith}
use Rattle.rdm_gaps.specs.Places.{Missing, after_reserved_take}
use Rattle.rdm_gaps.specs.Ranges.{places_of, AreApart, total}
use Rattle.rdm_gaps.proofs.Answered.{found, says_no, says_yes, more_than, not_within, empty_is_missing, none_is_not, ends_early, has_all}
use Rattle.rdm_gaps.proofs.Takes.{cut_found}
use Rattle.rdm_gaps.proofs.Gaps.take_reserved.Goals as goal

pub returns-then-not-is_within-clause-answer : goal.returns-then-not-is_within-clause-answer
returns-then-not-is_within-clause-answer c =
    let g = c.self.inside in
    let places = ap (λ (m : Missing). m.places) c.self.view_is in
    says_no (not_within g.size c.args.off c.args.len g.gaps.items c.args.self.now places c.self.invariant.apart (more_than _ _ c.if-not-is_within.ensures.1))

pub returns-then-len-eq0-clause-answer : goal.returns-then-len-eq0-clause-answer
returns-then-len-eq0-clause-answer c =
    let g = c.self.inside in
    let places = ap (λ (m : Missing). m.places) c.self.view_is in
    says_yes (empty_is_missing g.size c.args.off c.args.len g.gaps.items c.args.self.now places c.self.invariant.apart c.if-len-eq0.true (c.if-not-is_within.ensures.0 refl))

pub returns-in_default-clause-answer : goal.returns-in_default-clause-answer
returns-in_default-clause-answer c =
    let g = c.self.inside in
    let places = ap (λ (m : Missing). m.places) c.self.view_is in
    says_no (none_is_not g.size c.args.off c.args.len g.gaps.items c.args.self.now places c.self.invariant.apart _ c.deref.ensures.value c.if-len-eq0.false c.in_default.ensures)

pub returns-then-index-end-clause-answer : goal.returns-then-index-end-clause-answer
returns-then-index-end-clause-answer c =
    let g = c.self.inside in
    let places = ap (λ (m : Missing). m.places) c.self.view_is in
    let f = found c.args.off c.in-Some.i c.index.result.now _ g.gaps.items c.deref.ensures.value c.in-Some.ensures c.index.ensures in
    says_no (ends_early g.size c.args.off c.args.len g.gaps.items c.args.self.now places c.self.invariant.apart c.in-Some.i c.index.result.now f c.if-index-end.true)

pub returns-clause-answer : goal.returns-clause-answer
returns-clause-answer c =
    let g = c.self.inside in
    let places = ap (λ (m : Missing). m.places) c.self.view_is in
    let f = found c.args.off c.in-Some.i c.index.result.now _ g.gaps.items c.deref.ensures.value c.in-Some.ensures c.index.ensures in
    says_yes (has_all g.size c.args.off c.args.len g.gaps.items c.args.self.now places c.self.invariant.apart c.in-Some.i c.index.result.now f c.if-index-end.false (c.if-not-is_within.ensures.0 refl))

pub overflow_sub-self-3 : goal.overflow_sub-self-3
overflow_sub-self-3 c =
    let g = c.self.inside in
    let f = found c.args.off c.in-Some.i c.index.result.now _ g.gaps.items c.deref.ensures.value c.in-Some.ensures c.index.ensures in
    let cut = cut_found g.size c.args.off c.args.len c.in-Some.i c.index.result.now g.gaps.items c.self.invariant.apart c.if-len-eq0.false f c.if-index-end.false in
    omega (arith, cut.count, c.self.invariant.left)

pub invariant_of-self-2 : goal.invariant_of-self-2
invariant_of-self-2 c =
    let g = c.self.inside in
    let f = found c.args.off c.in-Some.i c.index.result.now _ g.gaps.items c.deref.ensures.value c.in-Some.ensures c.index.ensures in
    let cut = cut_found g.size c.args.off c.args.len c.in-Some.i c.index.result.now g.gaps.items c.self.invariant.apart c.if-len-eq0.false f c.if-index-end.false in
    record {
      fits = c.self.invariant.fits;
      apart = subst (AreApart 0 g.size) (sym c.cut.ensures.items) cut.apart;
      left = let e = ap total c.cut.ensures.items in omega (arith, e, cut.count, c.self.invariant.left);
      room = let spare = ap (λ (m : Missing). m.spare) c.self.view_is in omega (arith, c.cut.ensures.more, c.cut.ensures.capacity, c.self.invariant.room, c.requires, spare);
    }

pub returns-clause-after : goal.returns-clause-after
returns-clause-after c =
    let g = c.self.inside in
    let f = found c.args.off c.in-Some.i c.index.result.now _ g.gaps.items c.deref.ensures.value c.in-Some.ensures c.index.ensures in
    let cut = cut_found g.size c.args.off c.args.len c.in-Some.i c.index.result.now g.gaps.items c.self.invariant.apart c.if-len-eq0.false f c.if-index-end.false in
    ap (λ l. record { places = l; spare = g.spare - 1 }) (ap (places_of 0 g.size) c.cut.ensures.items ∙ cut.places) ∙ ap (λ m. after_reserved_take m c.args.off c.args.len true) c.self.view_is
