use Rattle.std.proofs.Common.{ap, sym, subst, ◌∙◌, arith}
use Rattle.rdm_regions.specs.Steps.{MayMark}
use Rattle.rdm_regions.specs.Tallies.{Keeps}
use Rattle.rdm_regions.proofs.Refusals.{registry_of}
use Rattle.std.specs.Prelude.{slice_set}
use Rattle.rdm_regions.proofs.Holding.{there, reserved, reserved_view, is_reserved, fits, marks, holds, holds_view, on_err}
use Rattle.rdm_regions.proofs.regions.Regions.keep.Goals as goal

pub index_mut-region-requires : goal.index_mut-region-requires
index_mut-region-requires c =
    let i = c.self.inside in
    let lt = there i.regions.items i.held.entries i.leased.entries c.self.invariant c.args.self.now c.self.view_is c.args.range c.requires.allowed in
    omega arith

pub invariant_of-self : goal.invariant_of-self
invariant_of-self c =
    let i = c.self.inside in
    reserved i.regions.items i.held.entries i.leased.entries c.self.invariant c.args.self.now c.self.view_is c.args.range c.requires.allowed c.index_mut-region.result.now c.index_mut-region.ensures.value c.reserve.new.self c.in_err-reserve.ensures.same

pub returns-in_err-reserve-clause-err : goal.returns-in_err-reserve-clause-err
returns-in_err-reserve-clause-err c =
    let i = c.self.inside in
    let e = reserved_view i.regions.items i.held.entries i.leased.entries c.self.invariant c.args.self.now c.self.view_is c.args.range c.requires.allowed c.index_mut-region.result.now c.index_mut-region.ensures.value c.reserve.new.self c.in_err-reserve.ensures.same in
    on_err c.from_residual.result e

pub invariant_of-self-in_err-insert : goal.invariant_of-self-in_err-insert
invariant_of-self-in_err-insert c =
    let i = c.self.inside in
    subst (λ es. Keeps (slice_set i.regions.items c.args.range.region.0 c.reserve.new.self) es i.leased.entries) (sym c.in_err-insert.ensures.err)
    (reserved i.regions.items i.held.entries i.leased.entries c.self.invariant c.args.self.now c.self.view_is c.args.range c.requires.allowed c.index_mut-region.result.now c.index_mut-region.ensures.value c.reserve.new.self c.in_ok-reserve.ensures.same)

pub returns-in_err-insert-clause-err : goal.returns-in_err-insert-clause-err
returns-in_err-insert-clause-err c =
    let i = c.self.inside in
    let e = reserved_view i.regions.items i.held.entries i.leased.entries c.self.invariant c.args.self.now c.self.view_is c.args.range c.requires.allowed c.index_mut-region.result.now c.index_mut-region.ensures.value c.reserve.new.self c.in_ok-reserve.ensures.same in
    on_err c.from_residual-in_err-insert.result (ap (λ es. registry_of (slice_set i.regions.items c.args.range.region.0 c.reserve.new.self) es i.leased.entries) c.in_err-insert.ensures.err ∙ e)

pub index_mut-region-requires-2 : goal.index_mut-region-requires-2
index_mut-region-requires-2 c =
    let i = c.self.inside in
    let lt = there i.regions.items i.held.entries i.leased.entries c.self.invariant c.args.self.now c.self.view_is c.args.range c.requires.allowed in
    omega arith

pub mark-requires-clause-room : goal.mark-requires-clause-room
mark-requires-clause-room c =
    let i = c.self.inside in
    subst MayMark (sym (is_reserved i.regions.items i.held.entries i.leased.entries c.self.invariant c.args.self.now c.self.view_is c.args.range c.requires.allowed c.index_mut-region.result.now c.index_mut-region.ensures.value c.reserve.new.self c.in_ok-reserve.ensures.same c.index_mut-region-2.result.now c.index_mut-region-2.ensures.value))
    c.in_ok-reserve.ensures.room

pub mark-requires-clause-fits : goal.mark-requires-clause-fits
mark-requires-clause-fits c =
    let i = c.self.inside in
    fits i.regions.items i.held.entries i.leased.entries c.self.invariant c.args.self.now c.self.view_is c.args.range c.requires.allowed c.index_mut-region.result.now c.index_mut-region.ensures.value c.reserve.new.self c.in_ok-reserve.ensures.same c.index_mut-region-2.result.now c.index_mut-region-2.ensures.value

pub mark-requires-clause-starts_rise : goal.mark-requires-clause-starts_rise
mark-requires-clause-starts_rise c =
    let i = c.self.inside in
    (marks i.regions.items i.held.entries i.leased.entries c.self.invariant c.args.self.now c.self.view_is c.args.range c.requires.allowed c.index_mut-region.result.now c.index_mut-region.ensures.value c.reserve.new.self c.in_ok-reserve.ensures.same c.index_mut-region-2.result.now c.index_mut-region-2.ensures.value).starts_rise

pub mark-requires-clause-ends_rise : goal.mark-requires-clause-ends_rise
mark-requires-clause-ends_rise c =
    let i = c.self.inside in
    (marks i.regions.items i.held.entries i.leased.entries c.self.invariant c.args.self.now c.self.view_is c.args.range c.requires.allowed c.index_mut-region.result.now c.index_mut-region.ensures.value c.reserve.new.self c.in_ok-reserve.ensures.same c.index_mut-region-2.result.now c.index_mut-region-2.ensures.value).ends_rise

pub invariant_of-self-2 : goal.invariant_of-self-2
invariant_of-self-2 c =
    let i = c.self.inside in
    holds i.regions.items i.held.entries i.leased.entries c.self.invariant c.args.self.now c.self.view_is c.args.range c.requires.allowed c.index_mut-region.result.now c.index_mut-region.ensures.value c.reserve.new.self c.in_ok-reserve.ensures.same c.index_mut-region-2.result.now c.index_mut-region-2.ensures.value
    c.mark.new.self c.mark.ensures c.args.key c.requires.free c.insert.new.self.entries c.in_ok-insert.ensures.entries c.in_ok-insert.ensures.ordered

pub returns-clause-ok : goal.returns-clause-ok
returns-clause-ok c =
    let i = c.self.inside in
    holds_view i.regions.items i.held.entries i.leased.entries c.self.invariant c.args.self.now c.self.view_is c.args.range c.requires.allowed c.index_mut-region.result.now c.index_mut-region.ensures.value c.reserve.new.self c.in_ok-reserve.ensures.same c.index_mut-region-2.result.now c.index_mut-region-2.ensures.value
    c.mark.new.self c.mark.ensures c.args.key c.requires.free c.insert.new.self.entries c.in_ok-insert.ensures.entries c.in_ok-insert.ensures.ordered c.in_ok-insert.ensures.updates.0
