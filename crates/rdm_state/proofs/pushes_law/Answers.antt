use Rattle.rdm_state.proofs.Pushed.{packets_go, replies_go}
use Rattle.rdm_state.proofs.pushes_law.Goals as goal

pub returns : goal.returns
returns c = record { packets = packets_go; replies = replies_go }
