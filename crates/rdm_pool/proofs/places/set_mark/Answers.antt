use Rattle.std.proofs.Common.{refl, arith}
use Rattle.rdm_pool.proofs.Search.{number_here}
use Rattle.rdm_pool.proofs.Live.{rises-gone, below-gone}
use Rattle.rdm_pool.proofs.Following.{below_at}
use Rattle.rdm_pool.proofs.Marked.{marked-mark, live-same, ends-same, marks-set, marks_within, marked-nowhere}
use Rattle.rdm_pool.proofs.places.set_mark.Goals as goal

pub mark_end-requires : goal.mark_end-requires
mark_end-requires c = below_at 4294967295 c.args.places.now c.in-Some.at _ c.requires.below c.in-Some.ensures.within

pub set-requires : goal.set-requires
set-requires c = omega (arith, c.in-Some.ensures.within, marks_within c.args.places.now c.args.marks.now c.requires.marks)

pub returns-clause-live : goal.returns-clause-live
returns-clause-live c =
    let is = c.in-Some.ensures.found in
    live-same c.args.places.now c.args.id.0 c.in-Some.at _ _ is (number_here c.args.places.now c.args.id.0 c.in-Some.at _ is) refl

pub returns-clause-rises : goal.returns-clause-rises
returns-clause-rises c =
    let is = c.in-Some.ensures.found in
    rises-gone 0 c.args.places.now c.args.id.0 c.in-Some.at _ is (number_here c.args.places.now c.args.id.0 c.in-Some.at _ is)

pub returns-clause-below : goal.returns-clause-below
returns-clause-below c = λ bound.
    let is = c.in-Some.ensures.found in
    below-gone bound c.args.places.now c.args.id.0 c.in-Some.at _ is (number_here c.args.places.now c.args.id.0 c.in-Some.at _ is)

pub returns-clause-ends : goal.returns-clause-ends
returns-clause-ends c = λ ends.
    let is = c.in-Some.ensures.found in
    ends-same c.args.places.now ends c.args.id.0 c.in-Some.at _ _ is (number_here c.args.places.now c.args.id.0 c.in-Some.at _ is) refl

pub returns-clause-marks : goal.returns-clause-marks
returns-clause-marks c = rw c.set.ensures (marks-set c.args.places.now c.args.marks.now c.args.id.0 c.in-Some.at _ _ c.in-Some.ensures.found c.mark_end.ensures c.requires.marks)

pub returns-clause-marked : goal.returns-clause-marked
returns-clause-marked c =
    let is = c.in-Some.ensures.found in
    marked-mark c.args.places.now c.args.id.0 c.in-Some.at _ _ is (number_here c.args.places.now c.args.id.0 c.in-Some.at _ is) refl c.requires.rises

pub returns-in_default-clause-marked : goal.returns-in_default-clause-marked
returns-in_default-clause-marked c =
    marked-nowhere c.args.is_marked c.args.places.now c.args.id.0 c.in_default.ensures.absent
