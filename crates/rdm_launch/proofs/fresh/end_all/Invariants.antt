use Rattle.std.proofs.Common.{vec_len}
use Rattle.rdm_launch.proofs.fresh.end_all.Given as goal

abbrev pub decreases-loop-port : goal.decreases-loop-port
decreases-loop-port l = vec_len l.ports
