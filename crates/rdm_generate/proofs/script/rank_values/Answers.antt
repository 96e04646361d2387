use Rattle.std.proofs.Common.{[], arith}
use Rattle.serde_json.specs.View.{view}
use Rattle.rdm_generate.specs.Script.{rank_json}
use Rattle.rdm_generate.proofs.EachPort.{next_port, all_ports}
use Rattle.rdm_generate.proofs.script.rank_values.Goals as goal

pub loop-rank-preserved : goal.loop-rank-preserved
loop-rank-preserved c =
    next_port (rank_json c.args.seed c.args.messages.now) [] _ _ (view c.in_ok-rank_value.field-0) c.loop-rank.rank c.loop-rank.invariant c.in_ok-rank_value.ensures
    c.in_ok-push.ensures

pub returns : goal.returns
returns c = all_ports (rank_json c.args.seed c.args.messages.now) [] _ c.loop-rank.rank c.loop-rank.invariant (omega arith)
