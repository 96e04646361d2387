use Rattle.rdm_launch.specs.Fitting.{IsAtWork}
use Rattle.rdm_launch.proofs.turns.push_some.Given as goal

abbrev pub invariant-loop-push : goal.invariant-loop-push
invariant-loop-push g l = IsAtWork g.J.Naming.tables g.J.Naming.starts l.port l.wire l.fn.port.number
