use Rattle.std.proofs.Common.{vec_len}
use Rattle.rdm_turn.proofs.tests.spend_all.Given as goal

abbrev pub invariant-loop-value : goal.invariant-loop-value
invariant-loop-value l = Unit {0}

abbrev pub decreases-loop-value : goal.decreases-loop-value
decreases-loop-value l = vec_len l.values
