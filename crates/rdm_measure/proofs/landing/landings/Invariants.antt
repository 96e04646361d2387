use Rattle.rdm_mr.specs.Part.{Whole}
use Rattle.rdm_measure.proofs.landing.landings.Given as goal

-- the block is whole between messages
abbrev pub invariant-loop-message : goal.invariant-loop-message
invariant-loop-message l = Whole l.part
