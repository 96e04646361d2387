use Rattle.std.proofs.Common.{arith}
use Rattle.rdm_launch.proofs.Starting.{tables_count, fresh_fits}
use Rattle.rdm_launch.proofs.launching.launch.Goals as goal

pub run_named-requires-clause-some : goal.run_named-requires-clause-some
run_named-requires-clause-some g c = λ κs lives.
    let some = c.requires.fresh.some in
    let few = c.requires.fresh.few in
    let ports = c.args.ports.ok.0 in
    (omega arith, omega arith)

pub run_named-requires-clause-count : goal.run_named-requires-clause-count
run_named-requires-clause-count g c = λ κs lives.
    let tables = tables_count c.args.ports.items c.args.inboxes c.in-Ok.queues c.in-Ok.all.items c.requires.fresh c.in-Ok.ensures.ok in
    let count = c.in-Ok.ensures.ok.passes.count in
    let ports = c.args.ports.ok.0 in
    let all = c.in-Ok.all.ok.0 in
    (omega arith, omega arith)

pub run_named-requires-clause-fits : goal.run_named-requires-clause-fits
run_named-requires-clause-fits g c = λ κs lives. fresh_fits c.args.ports.items c.args.inboxes c.in-Ok.queues c.in-Ok.all.items c.requires.fresh c.in-Ok.ensures.ok
