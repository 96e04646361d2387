use Rattle.std.proofs.Common.{rules, arith}
use Rattle.rdm_pool.specs.Places.{live, listed}
use Rattle.rdm_pool.proofs.Following.{zeros}
use Rattle.rdm_pool.proofs.Pool.new.Goals as goal

pub invariant_of-result : goal.invariant_of-result
unfolding live listed
invariant_of-result g c =
    let none = c.in_ok-places.ensures.items in
    record {
      held = rw none tt;
      rises = rw none tt;
      given = rw none tt;
      counted = search rules;
      within = search rules;
      has_slots = search rules;
      has_places = search rules;
      ended = rw none (rw c.in_ok-ends.ensures.zero (zeros _));
      has_ends = omega (arith, c.capacity.ensures, c.in_ok-ends.ensures.room);
      mark_ended = rw none (rw c.in_ok-marks.ensures.zero (zeros _));
      has_marks = omega (arith, c.capacity-2.ensures, c.in_ok-marks.ensures.room);
    }
