use Rattle.std.proofs.Common.{sym, subst, arith}
use Rattle.rdm_regions.specs.Tallies.{Keeps}
use Rattle.rdm_regions.proofs.Holding.{held_there, held_fits, held_marks, may_unmark, dropped, dropped_view, dropped_none}
use Rattle.rdm_regions.proofs.regions.Regions.release.Goals as goal

pub index_mut-region-requires : goal.index_mut-region-requires
index_mut-region-requires c =
    let i = c.self.inside in
    let lt = held_there i.regions.items i.held.entries i.leased.entries c.self.invariant c.args.self.now c.self.view_is c.args.key c.in-Some.range (sym c.in-Some.ensures.value) in
    omega arith

pub unmark-requires-clause-there : goal.unmark-requires-clause-there
unmark-requires-clause-there c =
    let i = c.self.inside in
    may_unmark i.regions.items i.held.entries i.leased.entries c.self.invariant c.args.self.now c.self.view_is c.args.key c.in-Some.range (sym c.in-Some.ensures.value) c.index_mut-region.result.now c.index_mut-region.ensures.value

pub unmark-requires-clause-fits : goal.unmark-requires-clause-fits
unmark-requires-clause-fits c =
    let i = c.self.inside in
    held_fits i.regions.items i.held.entries i.leased.entries c.self.invariant c.args.self.now c.self.view_is c.args.key c.in-Some.range (sym c.in-Some.ensures.value) c.index_mut-region.result.now c.index_mut-region.ensures.value

pub unmark-requires-clause-starts_rise : goal.unmark-requires-clause-starts_rise
unmark-requires-clause-starts_rise c =
    let i = c.self.inside in
    (held_marks i.regions.items i.held.entries i.leased.entries c.self.invariant c.args.self.now c.self.view_is c.args.key c.in-Some.range (sym c.in-Some.ensures.value) c.index_mut-region.result.now c.index_mut-region.ensures.value).starts_rise

pub unmark-requires-clause-ends_rise : goal.unmark-requires-clause-ends_rise
unmark-requires-clause-ends_rise c =
    let i = c.self.inside in
    (held_marks i.regions.items i.held.entries i.leased.entries c.self.invariant c.args.self.now c.self.view_is c.args.key c.in-Some.range (sym c.in-Some.ensures.value) c.index_mut-region.result.now c.index_mut-region.ensures.value).ends_rise

pub invariant_of-self : goal.invariant_of-self
invariant_of-self c =
    let i = c.self.inside in
    dropped i.regions.items i.held.entries i.leased.entries c.self.invariant c.args.self.now c.self.view_is c.args.key c.in-Some.range (sym c.in-Some.ensures.value) c.index_mut-region.result.now c.index_mut-region.ensures.value
    c.unmark.new.self c.unmark.ensures c.remove.new.self.entries c.remove.ensures.entries c.remove.ensures.ordered

pub returns-in-Some : goal.returns-in-Some
returns-in-Some c =
    let i = c.self.inside in
    dropped_view i.regions.items i.held.entries i.leased.entries c.self.invariant c.args.self.now c.self.view_is c.args.key c.in-Some.range (sym c.in-Some.ensures.value) c.index_mut-region.result.now c.index_mut-region.ensures.value
    c.unmark.new.self c.unmark.ensures c.remove.new.self.entries c.remove.ensures.entries c.remove.ensures.ordered c.remove.ensures.updates.0

pub invariant_of-self-in-None : goal.invariant_of-self-in-None
invariant_of-self-in-None c = subst (λ es. Keeps c.self.inside.regions.items es c.self.inside.leased.entries) (sym c.in-None.ensures.unchanged) c.self.invariant

pub returns-in-None : goal.returns-in-None
returns-in-None c =
    let i = c.self.inside in
    dropped_none i.regions.items i.held.entries i.leased.entries c.self.invariant c.args.self.now c.self.view_is c.args.key c.remove.new.self.entries c.remove.ensures.updates.0
