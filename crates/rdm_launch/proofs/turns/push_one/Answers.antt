use Rattle.std.proofs.Common.{◌∙◌}
use Rattle.rdm_launch.proofs.Growing.{push_grows}
use Rattle.rdm_launch.proofs.Placing.{push_placed, serves_same, at_work_serves}
use Rattle.rdm_launch.proofs.turns.push_one.Goals as goal

pub push-requires-clause-serves : goal.push-requires-clause-serves
push-requires-clause-serves g c = (at_work_serves g.J.Naming.tables g.J.Naming.starts c.args.port.now c.args.wire.now c.args.port.now.number c.requires).0

pub push-requires-clause-ports : goal.push-requires-clause-ports
push-requires-clause-ports g c = (at_work_serves g.J.Naming.tables g.J.Naming.starts c.args.port.now c.args.wire.now c.args.port.now.number c.requires).1

pub returns : goal.returns
returns g c =
    let e = c.push.ensures in (
      e.queues.0 ∙ c.requires.0,
      push_placed g.J.Naming.tables g.J.Naming.starts c.args.port.now c.push.new.self c.args.wire.now.passes c.push.new.wire.passes c.args.port.now.number c.push.result c.requires.1 e.same
          (push_grows c.args.port.now c.push.new.self c.push.result e.does) (serves_same c.args.wire.now c.push.new.wire e.kept.1) e.moves.1 e.moves.0,
    )
