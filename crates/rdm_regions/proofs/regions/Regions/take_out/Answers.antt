use Rattle.std.proofs.Common.{refl, arith}
use Rattle.rdm_regions.proofs.Leasing.{lease_there, may_lift, lifted_part, lifted_keeps, lifted_view, lifted_lease, back_keeps, back_view}
use Rattle.rdm_regions.proofs.regions.Regions.take_out.Goals as goal

pub index_mut-region-requires : goal.index_mut-region-requires
index_mut-region-requires c =
    let i = c.self.inside in
    let lt = lease_there i.regions.items i.held.entries i.leased.entries c.self.invariant c.args.self.now c.self.view_is c.args.range c.args.recv.0 c.requires.allowed c.requires.free c.insert.new.self.entries c.in_ok-insert.ensures.entries in
    omega arith

pub lift-requires : goal.lift-requires
lift-requires c =
    let i = c.self.inside in
    may_lift i.regions.items i.held.entries i.leased.entries c.self.invariant c.args.self.now c.self.view_is c.args.range c.args.recv.0 c.requires.allowed c.requires.free c.insert.new.self.entries c.in_ok-insert.ensures.entries c.index_mut-region.result.now c.index_mut-region.ensures.value

pub invariant_of-self-in-Ok : goal.invariant_of-self-in-Ok
invariant_of-self-in-Ok c =
    let i = c.self.inside in
    lifted_keeps i.regions.items i.held.entries i.leased.entries c.self.invariant c.args.self.now c.self.view_is c.args.range c.args.recv.0 c.requires.allowed c.requires.free c.insert.new.self.entries c.in_ok-insert.ensures.entries c.index_mut-region.result.now c.index_mut-region.ensures.value
    c.lift.new.self c.in-Ok.ensures.ok.1 c.in_ok-insert.ensures.ordered

pub invariant_of-self-in-Err : goal.invariant_of-self-in-Err
invariant_of-self-in-Err c =
    let i = c.self.inside in
    back_keeps i.regions.items i.held.entries i.leased.entries c.self.invariant c.args.self.now c.self.view_is c.args.range c.args.recv.0 c.requires.allowed c.requires.free c.insert.new.self.entries c.in_ok-insert.ensures.entries c.index_mut-region.result.now c.index_mut-region.ensures.value
    c.lift.new.self c.in-Err.ensures.err c.remove.new.self.entries c.remove.ensures.entries

pub returns-in-Ok-clause-part : goal.returns-in-Ok-clause-part
returns-in-Ok-clause-part c =
    let i = c.self.inside in
    lifted_part i.regions.items i.held.entries i.leased.entries c.self.invariant c.args.self.now c.self.view_is c.args.range c.args.recv.0 c.requires.allowed c.requires.free c.insert.new.self.entries c.in_ok-insert.ensures.entries c.index_mut-region.result.now c.index_mut-region.ensures.value
    c.in-Ok.part c.in-Ok.ensures.ok.0

pub returns-in-Ok-clause-lease : goal.returns-in-Ok-clause-lease
returns-in-Ok-clause-lease c =
    let i = c.self.inside in
    lifted_lease i.regions.items i.held.entries i.leased.entries c.self.invariant c.args.self.now c.self.view_is c.args.range c.args.recv.0 c.requires.allowed c.requires.free c.insert.new.self.entries c.in_ok-insert.ensures.entries c.index_mut-region.result.now c.index_mut-region.ensures.value
    c.lift.new.self c.in-Ok.ensures.ok.1 c.in_ok-insert.ensures.ordered c.in_ok-insert.ensures.updates.0 c.in-Ok.part c.in-Ok.ensures.ok.0 _ refl

pub returns-in-Ok-clause-ok : goal.returns-in-Ok-clause-ok
returns-in-Ok-clause-ok c =
    let i = c.self.inside in
    lifted_view i.regions.items i.held.entries i.leased.entries c.self.invariant c.args.self.now c.self.view_is c.args.range c.args.recv.0 c.requires.allowed c.requires.free c.insert.new.self.entries c.in_ok-insert.ensures.entries c.index_mut-region.result.now c.index_mut-region.ensures.value
    c.lift.new.self c.in-Ok.ensures.ok.1 c.in_ok-insert.ensures.updates.0

pub returns-in-Err-clause-err : goal.returns-in-Err-clause-err
returns-in-Err-clause-err c =
    let i = c.self.inside in
    back_view i.regions.items i.held.entries i.leased.entries c.self.invariant c.args.self.now c.self.view_is c.args.range c.args.recv.0 c.requires.allowed c.requires.free c.insert.new.self.entries c.in_ok-insert.ensures.entries c.index_mut-region.result.now c.index_mut-region.ensures.value
    c.lift.new.self c.in-Err.ensures.err c.remove.new.self.entries c.remove.ensures.entries
