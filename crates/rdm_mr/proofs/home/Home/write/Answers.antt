use Rattle.std.proofs.Common.{◌+◌, ◌-◌, arith, ap, ◌∙◌}
use Rattle.rdm_mr.specs.Tiles.{overwritten}
use Rattle.rdm_mr.proofs.Homes.{fits, home_within, some_bytes, not_home, wrote}
use Rattle.rdm_mr.proofs.home.Home.write.Goals as goal

pub overflow_add-from : goal.overflow_add-from
overflow_add-from c =
    let f = fits _ _ _ _ _ _ _ c.self.invariant.apart c.self.view_is c.args.at _ (home_within _ _ _ c.requires) c.self.invariant.small in
    record { fits = omega (arith, f, c.start.ensures.value) }

pub overflow_add-from-2 : goal.overflow_add-from-2
overflow_add-from-2 c =
    let f = fits _ _ _ _ _ _ _ c.self.invariant.apart c.self.view_is c.args.at _ (home_within _ _ _ c.requires) c.self.invariant.small in
    record { fits = omega (arith, f, c.start.ensures.value) }

pub unreachable-requires : goal.unreachable-requires
unreachable-requires c = not_home _ _ _ _ _ _ _ c.self.invariant.apart c.self.view_is c.args.at _ (c.start.result + c.args.at) _ c.deref.ensures.value (ap (λ k. k + c.args.at) c.start.ensures.value) c.in-None.ensures c.requires

pub invariant_of-self : goal.invariant_of-self
invariant_of-self c =
    let from = c.start.result + c.args.at in
    let e = ap (λ k. k + c.args.at) c.start.ensures.value in
    let w = wrote _ _ _ _ _ _ _ c.self.invariant.apart c.self.view_is c.args.at from c.in-Some.i (from - c.start-in-Some.result) c.args.bytes.now _ c.index.result.now c.index_mut.result.now _ c.deref.ensures.value e (some_bytes _ c.if-is_empty.ensures) c.in-Some.ensures
    c.index.ensures c.index_mut.ensures.value (ap (λ k. from - k) c.start-in-Some.ensures.value) c.overwrite.ensures in
    record {
      anchor = c.self.invariant.anchor;
      small = c.self.invariant.small;
      apart = w.apart;
      of_block = w.of_block _ _ c.self.invariant.of_block;
      room = c.self.invariant.room;
    }

pub returns : goal.returns
returns c =
    let f = c.self.inside in
    let from = c.start.result + c.args.at in
    let e = ap (λ k. k + c.args.at) c.start.ensures.value in
    let w = wrote _ _ _ _ _ _ _ c.self.invariant.apart c.self.view_is c.args.at from c.in-Some.i (from - c.start-in-Some.result) c.args.bytes.now _ c.index.result.now c.index_mut.result.now _ c.deref.ensures.value e (some_bytes _ c.if-is_empty.ensures) c.in-Some.ensures
    c.index.ensures c.index_mut.ensures.value (ap (λ k. from - k) c.start-in-Some.ensures.value) c.overwrite.ensures in
    ap (λ cs. record { block = f.anchor.block; whole = f.anchor.whole; start = f.anchor.start; cells = cs; out = f.out }) w.cells ∙ ap (λ t. overwritten t c.args.at c.args.bytes.now) c.self.view_is
