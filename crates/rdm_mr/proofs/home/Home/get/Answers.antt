use Rattle.std.proofs.Common.{◌+◌, ◌-◌, length, take, drop, arith, sym, ap, subst, ◌∙◌}
use Rattle.rdm_mr.specs.Tiles.{AreBytes}
use Rattle.rdm_mr.proofs.Homes.{fits, not_home, length-read, reads}
use Rattle.rdm_mr.proofs.home.Home.get.Goals as goal

pub overflow_add-from : goal.overflow_add-from
overflow_add-from c = let f = fits _ _ _ _ _ _ _ c.self.invariant.apart c.self.view_is c.args.at c.args.len c.requires c.self.invariant.small in record { fits = omega (arith, f, c.start.ensures.value) }

pub overflow_add-from-2 : goal.overflow_add-from-2
overflow_add-from-2 c = let f = fits _ _ _ _ _ _ _ c.self.invariant.apart c.self.view_is c.args.at c.args.len c.requires c.self.invariant.small in record { fits = omega (arith, f, c.start.ensures.value) }

pub returns-in_default : goal.returns-in_default
returns-in_default c = not_home _ _ _ _ _ _ _ c.self.invariant.apart c.self.view_is c.args.at c.args.len (c.start.result + c.args.at) _ c.deref.ensures.value (ap (λ k. k + c.args.at) c.start.ensures.value) c.in_default.ensures

pub returns : goal.returns
returns c =
    let from = c.start.result + c.args.at in
    let p = c.index-part.result.now in
    let is = c.read.ensures ∙ ap (λ k. take c.args.len (drop (from - k) p.bytes)) c.start-2.ensures.value in
    let e = ap (λ k. k + c.args.at) c.start.ensures.value in (
      ap length is ∙ length-read _ _ _ _ _ _ _ c.self.invariant.apart c.self.view_is c.args.at c.args.len from c.in-Some.i _ p c.deref.ensures.value e c.in-Some.ensures c.index-part.ensures,
      subst (λ bytes. AreBytes c.args.at bytes c.args.self.now.cells) (sym is) (reads _ _ _ _ _ _ _ c.self.invariant.apart c.self.view_is c.args.at c.args.len from c.in-Some.i _ p c.deref.ensures.value e c.in-Some.ensures c.index-part.ensures (omega (arith, c.if-len-eq0.false))),
    )
