use Rattle.std.proofs.Common.{refl, sym, ◌∙◌, arith}
use Rattle.rdm_pool.proofs.Entries.{without-absent}
use Rattle.rdm_pool.proofs.Search.{number_here, key_at, no_key}
use Rattle.rdm_pool.proofs.Live.{live-gone, rises-gone, below-gone}
use Rattle.rdm_pool.proofs.Following.{ends_within, ends-set}
use Rattle.rdm_pool.proofs.Marked.{marked-gone, marks-gone, marks_within, has-nowhere}
use Rattle.rdm_pool.proofs.Marks.{without-none}
use Rattle.rdm_pool.proofs.places.take_key.Goals as goal

pub returns-clause-key : goal.returns-clause-key
returns-clause-key c = c.take.ensures.value ∙ key_at 0 c.args.places.now c.args.id.0 c.in_ok-at.at _ c.requires.rises c.in_ok-at.ensures.found

pub returns-clause-live : goal.returns-clause-live
returns-clause-live c = live-gone 0 c.args.places.now c.args.id.0 c.in_ok-at.at _ c.in_ok-at.ensures.found c.take.ensures.after c.requires.rises

pub returns-clause-rises : goal.returns-clause-rises
returns-clause-rises c =
    let is = c.in_ok-at.ensures.found in
    rises-gone 0 c.args.places.now c.args.id.0 c.in_ok-at.at _ is (number_here c.args.places.now c.args.id.0 c.in_ok-at.at _ is)

pub returns-clause-below : goal.returns-clause-below
returns-clause-below c = λ bound.
    let is = c.in_ok-at.ensures.found in
    below-gone bound c.args.places.now c.args.id.0 c.in_ok-at.at _ is (number_here c.args.places.now c.args.id.0 c.in_ok-at.at _ is)

pub returns-in_err-at-clause-key : goal.returns-in_err-at-clause-key
returns-in_err-at-clause-key c = c.from_residual.ensures ∙ sym (no_key c.args.places.now c.args.id.0 c.in_err-at.ensures.absent)

pub returns-in_err-at-clause-live : goal.returns-in_err-at-clause-live
returns-in_err-at-clause-live c = sym (without-absent _ c.args.id.0 (no_key c.args.places.now c.args.id.0 c.in_err-at.ensures.absent))

pub set-requires : goal.set-requires
set-requires c = omega (arith, c.in_ok-at.ensures.within, ends_within c.args.places.now c.args.ends.now c.requires.ends)

pub returns-clause-ends : goal.returns-clause-ends
returns-clause-ends c = rw c.set.ensures (ends-set c.args.places.now c.args.ends.now c.args.id.0 c.in_ok-at.at 0 _ c.in_ok-at.ensures.found (rw c.take.ensures.after refl) c.requires.ends)

pub returns-clause-marked : goal.returns-clause-marked
returns-clause-marked c =
    let is = c.in_ok-at.ensures.found in
    marked-gone c.args.places.now c.args.id.0 c.in_ok-at.at _ is (number_here c.args.places.now c.args.id.0 c.in_ok-at.at _ is) c.take.ensures.after c.requires.rises

pub returns-in_err-at-clause-marked : goal.returns-in_err-at-clause-marked
returns-in_err-at-clause-marked c = sym (without-none _ c.args.id.0 (has-nowhere c.args.places.now c.args.id.0 c.in_err-at.ensures.absent))

pub set-requires-2 : goal.set-requires-2
set-requires-2 c = omega (arith, c.in_ok-at.ensures.within, marks_within c.args.places.now c.args.marks.now c.requires.marks)

pub returns-clause-marks : goal.returns-clause-marks
returns-clause-marks c = rw c.set-2.ensures (marks-gone c.args.places.now c.args.marks.now c.args.id.0 c.in_ok-at.at _ c.in_ok-at.ensures.found c.take.ensures.after c.requires.marks)
