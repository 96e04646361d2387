use Rattle.rdm_land.specs.Landed.{Keeps}
use Rattle.rdm_land.proofs.tests.fill_each.Given as goal

abbrev pub invariant-loop-off : goal.invariant-loop-off
invariant-loop-off l = Keeps l.fn.landing l.landing
