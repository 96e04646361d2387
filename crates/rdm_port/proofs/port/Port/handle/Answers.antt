use Rattle.std.proofs.Common.{◌≡◌, refl, ap, ◌∙◌, sym, subst, List, ◌++◌, length}
use Rattle.rdm_wire.specs.declared.Datagram.{Datagram}
use Rattle.rdm_model.specs.declared.job.Instr.{Instr}
use Rattle.rdm_port.specs.Kept.{HasRoom}
use Rattle.rdm_port.specs.Views.{PortView}
use Rattle.rdm_port.specs.contracts.port.Port.{the_view}
use Rattle.rdm_port.proofs.HandleKept.{restashed}
use Rattle.rdm_port.proofs.HandleEnds.{port_wants, port_handles}
use Rattle.rdm_port.proofs.Moves.{wants_moves, handled_moves}
use Rattle.rdm_port.proofs.port.Port.handle.Goals as goal

pub returns-in_default-clause-does : goal.returns-in_default-clause-does
returns-in_default-clause-does g c =
    rw (← c.self.view_is) (port_wants (g.W.Wire.in_order c.args.wire.now) (the_view c.self.inside) c.reserve.new.self.list c.args.pick (g.W.Wire.held c.args.wire.now) c.reserve.ensures.list)

pub invariant_of-self-2 : goal.invariant_of-self-2
invariant_of-self-2 g c =
    let v = the_view c.self.inside in
    let d = c.do_handle.ensures.does (record v { stash = c.fetch_into.new.stash.list }) refl refl refl (restashed v c.self.inside.state c.fetch_into.new.stash.list c.self.invariant.kept) in
    let o : c.as_slice.result.now ≡ c.self.inside.rank.ops = c.as_slice.ensures in
    record {
      kept = d.0;
      roomy = subst (λ (ops : List Instr). HasRoom (length ops) c.do_handle.new.log.room c.do_handle.new.state) o
          (c.do_handle.ensures.room (subst (λ (ops : List Instr). HasRoom (length ops) c.self.inside.log.room c.self.inside.state) (sym o) c.self.invariant.roomy));
    }

pub returns-clause-does : goal.returns-clause-does
returns-clause-does g c =
    let v = the_view c.self.inside in
    let d = c.do_handle.ensures.does (record v { stash = c.fetch_into.new.stash.list }) refl refl refl (restashed v c.self.inside.state c.fetch_into.new.stash.list c.self.invariant.kept) in
    let f = c.fetch_into.ensures.fetched in
    rw (← c.self.view_is)
    (port_handles (g.W.Wire.in_order c.args.wire.now) v _ c.fetch_into.new.stash.list f.0 c.args.pick c.do_handle.result _ _
    (f.1 ∙ ap (λ (ds : List Datagram). ds ++ f.0) c.reserve.ensures.list) f.2 d.1)

pub returns-in_default-clause-moves : goal.returns-in_default-clause-moves
returns-in_default-clause-moves g c =
    rw (← c.self.view_is) (wants_moves (the_view c.self.inside) c.reserve.new.self.list (g.W.Wire.account c.args.wire.now) (g.W.Wire.empties c.args.wire.now) c.reserve.ensures.list)

pub returns-clause-queues : goal.returns-clause-queues
returns-clause-queues g c = c.fetch_into.ensures.queues

pub returns-clause-moves : goal.returns-clause-moves
returns-clause-moves g c =
    let v = the_view c.self.inside in
    let moves = c.do_handle.ensures.moves (record v { stash = c.fetch_into.new.stash.list }) refl refl refl (restashed v c.self.inside.state c.fetch_into.new.stash.list c.self.invariant.kept) in
    let f = c.fetch_into.ensures.fetched in
    rw (← c.self.view_is)
    (handled_moves (g.W.Wire.ports c.args.wire.now) v c.do_handle.new.log.list c.fetch_into.new.stash.list c.do_handle.new.stash.list f.0 c.do_handle.result _ _ _ _
    (c.requires.ports ∙ ap (λ (x : PortView). x.ports) (sym c.self.view_is)) (f.1 ∙ ap (λ (ds : List Datagram). ds ++ f.0) c.reserve.ensures.list) f.3 moves)
