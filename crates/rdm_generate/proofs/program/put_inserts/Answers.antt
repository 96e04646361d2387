use Rattle.std.proofs.Common.{map, ap, ◌∙◌, arith}
use Rattle.serde_json.specs.View.{view}
use Rattle.rdm_generate.specs.Instructions.{insert_json}
use Rattle.rdm_generate.specs.Programs.{connid_of}
use Rattle.rdm_generate.proofs.EachPort.{next_port, all_ports}
use Rattle.rdm_generate.proofs.program.put_inserts.Goals as goal

pub loop-port-preserved : goal.loop-port-preserved
loop-port-preserved c =
    next_port (λ p. insert_json p (connid_of p)) (map view c.args.ops.now.items) _ _ (view c.in_ok-insert.field-0) c.loop-port.port c.loop-port.invariant (c.in_ok-insert.ensures ∙ ap (insert_json c.loop-port.port) c.connid_of.ensures) c.in_ok-push.ensures

pub returns : goal.returns
returns c = all_ports (λ p. insert_json p (connid_of p)) (map view c.args.ops.now.items) _ c.loop-port.port c.loop-port.invariant (omega arith)
