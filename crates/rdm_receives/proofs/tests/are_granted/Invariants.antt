use Rattle.rdm_land.specs.Landed.{Keeps}
use Rattle.rdm_receives.proofs.tests.are_granted.Given as goal

abbrev pub invariant-loop-at : goal.invariant-loop-at
invariant-loop-at l = Keeps l.fn.receive.landed l.receive.landed
