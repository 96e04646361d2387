use Rattle.std.proofs.Common.{◌∙◌}
use Rattle.rdm_launch.proofs.Growing.{next_grows, handle_grows, poll_grows}
use Rattle.rdm_launch.proofs.Placing.{quiet_placed, handle_placed, serves_same, at_work_serves}
use Rattle.rdm_launch.proofs.turns.do_task.Goals as goal

pub returns-in-Next : goal.returns-in-Next
returns-in-Next g c =
    let e = c.next.ensures in (
      c.requires.0,
      quiet_placed g.J.Naming.tables g.J.Naming.starts c.args.port.now c.next.new.self c.args.wire.now.passes c.args.port.now.number c.requires.1 e.same
          (next_grows c.args.port.now c.next.new.self c.next.result e.does) e.moves.0 e.moves.1,
    )

pub handle-requires-clause-serves : goal.handle-requires-clause-serves
handle-requires-clause-serves g c = (at_work_serves g.J.Naming.tables g.J.Naming.starts c.args.port.now c.args.wire.now c.args.port.now.number c.requires).0

pub handle-requires-clause-ports : goal.handle-requires-clause-ports
handle-requires-clause-ports g c = (at_work_serves g.J.Naming.tables g.J.Naming.starts c.args.port.now c.args.wire.now c.args.port.now.number c.requires).1

pub returns-in-Handle : goal.returns-in-Handle
returns-in-Handle g c =
    let e = c.handle.ensures in (
      e.queues.0 ∙ c.requires.0,
      handle_placed g.J.Naming.tables g.J.Naming.starts c.args.port.now c.handle.new.self c.args.wire.now.passes c.handle.new.wire.passes c.args.port.now.number c.handle.result _ _ c.requires.1 e.same
          (handle_grows _ c.args.port.now c.handle.new.self _ c.handle.result _ _ e.does) (serves_same c.args.wire.now c.handle.new.wire e.kept.1) e.moves,
    )

pub returns-in-Poll : goal.returns-in-Poll
returns-in-Poll g c =
    let e = c.poll.ensures in (
      c.requires.0,
      quiet_placed g.J.Naming.tables g.J.Naming.starts c.args.port.now c.poll.new.self c.args.wire.now.passes c.args.port.now.number c.requires.1 e.same
          (poll_grows c.args.port.now c.poll.new.self c.poll.result e.does) e.moves.0 e.moves.1,
    )
