use Rattle.std.proofs.Common.{sym, arith}
use Rattle.rdm_regions.proofs.Leasing.{its_range, leased_there, is_out, back_home, back_home_view}
use Rattle.rdm_regions.proofs.regions.Regions.lease_back.Goals as goal

pub index_mut-region-requires : goal.index_mut-region-requires
index_mut-region-requires c =
    let i = c.self.inside in
    let lt = leased_there i.regions.items i.held.entries i.leased.entries c.self.invariant c.args.self.now c.self.view_is c.args.recv.0 c.args.part c.requires c.in-Some.range (sym c.in-Some.ensures.value) in
    omega arith

pub put_back-requires : goal.put_back-requires
put_back-requires c =
    let i = c.self.inside in
    is_out i.regions.items i.held.entries i.leased.entries c.self.invariant c.args.self.now c.self.view_is c.args.recv.0 c.args.part c.requires c.in-Some.range (sym c.in-Some.ensures.value) c.index_mut-region.result.now c.index_mut-region.ensures.value

pub invariant_of-self : goal.invariant_of-self
invariant_of-self c =
    let i = c.self.inside in
    back_home i.regions.items i.held.entries i.leased.entries c.self.invariant c.args.self.now c.self.view_is c.args.recv.0 c.args.part c.requires c.in-Some.range (sym c.in-Some.ensures.value) c.index_mut-region.result.now c.index_mut-region.ensures.value
    c.put_back.new.self c.put_back.ensures c.remove.new.self.entries c.remove.ensures.entries c.remove.ensures.ordered

pub unreachable-requires : goal.unreachable-requires
unreachable-requires c =
    let i = c.self.inside in
    let there = its_range i.regions.items i.held.entries i.leased.entries c.self.invariant c.args.self.now c.self.view_is c.args.recv.0 c.args.part c.requires in
    let none = c.in-None.ensures.value in
    cc

pub returns : goal.returns
returns c =
    let i = c.self.inside in
    back_home_view i.regions.items i.held.entries i.leased.entries c.self.invariant c.args.self.now c.self.view_is c.args.recv.0 c.args.part c.requires c.in-Some.range (sym c.in-Some.ensures.value) c.index_mut-region.result.now c.index_mut-region.ensures.value
    c.put_back.new.self c.put_back.ensures c.remove.new.self.entries c.remove.ensures.entries c.remove.ensures.updates.0
