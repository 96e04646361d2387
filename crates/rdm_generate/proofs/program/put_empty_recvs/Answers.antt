use Rattle.std.proofs.Common.{map, arith}
use Rattle.serde_json.specs.View.{view}
use Rattle.rdm_generate.specs.Instructions.{empty_recv_json}
use Rattle.rdm_generate.proofs.EachPort.{next_port, all_ports}
use Rattle.rdm_generate.proofs.program.put_empty_recvs.Goals as goal

pub loop-port-preserved : goal.loop-port-preserved
loop-port-preserved c =
    next_port (λ p. empty_recv_json p c.args.tag) (map view c.args.ops.now.items) _ _ (view c.in_ok-empty_recv.field-0) c.loop-port.port c.loop-port.invariant (c.in_ok-empty_recv.ensures) c.in_ok-push.ensures

pub returns : goal.returns
returns c = all_ports (λ p. empty_recv_json p c.args.tag) (map view c.args.ops.now.items) _ c.loop-port.port c.loop-port.invariant (omega arith)
