use Rattle.rdm_land.specs.Landed.{Keeps}
use Rattle.rdm_measure.proofs.landing.place.Given as goal

-- the landing keeps its block, its room and what is lent
abbrev pub invariant-loop-turn : goal.invariant-loop-turn
invariant-loop-turn l = Keeps l.fn.landing l.landing
