use Rattle.std.proofs.Common.{◌-◌, ◌↔◌, true, leb, IsTrue, sym, subst, arith}
use Rattle.rdm_land.specs.Landed.{Landed}
use Rattle.rdm_land.specs.Arrivals.{IsFree}
use Rattle.rdm_land.proofs.Fronts.{free_here, free_past}
use Rattle.rdm_land.proofs.landing.Landing.is_free.Goals as goal

pub returns-then-i-len : goal.returns-then-i-len
returns-then-i-len c =
    let f = c.self.inside in
    subst (λ k. IsTrue (leb c.args.len k) ↔ IsFree c.args.self.now c.args.off c.args.len) (sym c.saturating_sub.ensures)
    (subst (λ (l : Landed). IsTrue (leb c.args.len (c.index.result.now.start - c.args.off)) ↔ IsFree l c.args.off c.args.len) c.self.view_is
    (free_here 0 _ _ f.lent.items _ c.deref.ensures.value c.self.invariant.agrees.apart c.args.off c.args.len c.find-i.result c.find-i.ensures.before (omega (arith, c.if-i-len.true, c.len.ensures)) c.find-i.ensures.after _ c.index.ensures))

pub returns-else-i-len : goal.returns-else-i-len
returns-else-i-len c =
    let f = c.self.inside in
    subst (λ (l : Landed). IsTrue true ↔ IsFree l c.args.off c.args.len) c.self.view_is
    (free_past 0 _ _ f.lent.items _ c.deref.ensures.value c.self.invariant.agrees.apart c.args.off c.args.len c.find-i.result c.find-i.ensures.before (omega (arith, c.if-i-len.false, c.len.ensures)))
