use Rattle.std.proofs.Common.{rules, arith, ◌++◌, ◌<◌, ℕ, drop, get_or, ◌+◌, ap, sym, subst, ◌∙◌, false}
use Rattle.std.specs.Slots.{slots_items, slots_filled, slots_counts}
use lib.ListN.{get_elem?}
use Rattle.rdm_turn.specs.Slots.{values_of}
use Rattle.rdm_turn.proofs.Values.{passed, later_filled, earlier_empty}
use Rattle.rdm_turn.proofs.block.refill.Goals as goal

pub loop-i-preserved : goal.loop-i-preserved
loop-i-preserved g c =
    let kept = c.loop-i.invariant in
    let i : ℕ = c.loop-i.i in
    let filled = slots_filled c.loop-i.closed.slots in
    let counts = slots_counts c.loop-i.closed.slots in
    let others = c.take.ensures.others in
    let near = c.loop-i-test.true in
    let there = ap (λ slots. get_elem? slots i) (sym kept.3) ∙ c.take.ensures.value in (
      (λ k from below. ap (λ l. get_or l k false) others.1 ∙ later_filled filled i _ kept.0 k from (subst (λ (n : ℕ). k < n) others.2 below)),
      (λ k before. ap (λ l. get_or l k false) others.1 ∙ earlier_empty filled i (omega (arith, counts.1, kept.2, kept.4, near)) kept.1 k before),
      others.2 ∙ kept.2,
      others.0 ∙ kept.3,
      kept.4,
      ap (λ l. l ++ values_of (drop (i + 1) (slots_items c.args.closed.slots))) c.add.ensures.items ∙ (passed c.loop-i.values.items (slots_items c.args.closed.slots) i c.take.result there ∙ kept.5),
      search rules,
      c.add.ensures.block ∙ kept.7,
    )
