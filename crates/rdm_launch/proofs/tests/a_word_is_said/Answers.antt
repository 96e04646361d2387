use Rattle.std.proofs.Common.{◌≡◌, arith}
use Rattle.rdm_launch.proofs.Starting.{can_launch}
use Rattle.rdm_launch.proofs.tests.a_word_is_said.Goals as goal

pub launch-requires-clause-fresh : goal.launch-requires-clause-fresh
launch-requires-clause-fresh g c = λ κs.
    can_launch c.in_ok-job.job c.in_ok-ports.ports.items c.in_ok-inboxes.inboxes 2 4 c.in_ok-job.ensures (omega arith) (omega arith) c.in_ok-ports.ensures c.in_ok-inboxes.ensures
