use Rattle.std.proofs.Common.{◌+◌, ◌-◌, arith, ap, sym, subst, ◌∙◌}
use Rattle.rdm_mr.specs.Ordered.{cells_of, AreApart, AreOf}
use Rattle.rdm_mr.specs.Tiles.{Tiles}
use Rattle.rdm_mr.proofs.Fused.{AreOf_fused, AreOf_fused_before, AreOf_insert}
use Rattle.rdm_mr.proofs.Homes.{done, back_is}
use Rattle.rdm_mr.proofs.home.Home.put_back.Goals as goal

pub invariant_of-self : goal.invariant_of-self
invariant_of-self c =
    let f = c.self.inside in
    let n = f.anchor.start + f.size in
    let d = done _ _ _ _ _ _ _ c.self.invariant.apart c.self.view_is c.args.part c.requires.of.1 c.requires.some c.requires.out c.find-i.result c.start.result _ c.deref.ensures.value c.start.ensures.value c.find-i.ensures.within c.find-i.ensures.before c.find-i.ensures.after in
    let block = ap (λ (t : Tiles). t.block) c.self.view_is in
    let whole = ap (λ (t : Tiles). t.whole) c.self.view_is in
    let count = ap (λ (t : Tiles). t.out) c.self.view_is in
    let q = c.args.part in
    let i = c.find-i.result in
    record {
      anchor = c.self.invariant.anchor;
      small = c.self.invariant.small;
      apart = subst (AreApart f.anchor.start n) (sym c.put.ensures.items) d.apart;
      of_block = subst (AreOf f.anchor.block f.anchor.whole) (sym c.put.ensures.items)
          (AreOf_fused_before _ _ i _ (AreOf_fused _ _ i _ (AreOf_insert _ _ i q f.parts.items (c.requires.of.0.0 ∙ sym block) (c.requires.of.0.1 ∙ sym whole) c.self.invariant.of_block)));
      room = omega (arith, c.put.ensures.more, c.put.ensures.capacity, c.self.invariant.room, c.requires.counted, count);
    }

pub returns : goal.returns
returns c =
    let f = c.self.inside in
    let n = f.anchor.start + f.size in
    ap (λ cs. record { block = f.anchor.block; whole = f.anchor.whole; start = f.anchor.start; cells = cs; out = f.out - 1 }) (ap (cells_of f.anchor.start n) c.put.ensures.items)
    ∙ back_is _ _ _ _ _ _ _ c.self.invariant.apart c.self.view_is c.args.part c.requires.of.1 c.requires.some c.requires.out c.find-i.result c.start.result _ c.deref.ensures.value c.start.ensures.value c.find-i.ensures.within c.find-i.ensures.before c.find-i.ensures.after
