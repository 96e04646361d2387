use Rattle.std.proofs.Common.{rules, ◌++◌, sym, ap, ◌∙◌, reverse}
use Rattle.rdm_turn.specs.Slots.{values_of}
use Rattle.rdm_turn.proofs.Values.{moved}
use Rattle.rdm_turn.proofs.block.from_slots.Goals as goal

pub loop-slot-preserved : goal.loop-slot-preserved
loop-slot-preserved g c = (
  ap (λ l. values_of c.pop.new.self.items ++ reverse l) c.add.ensures.items
      ∙ (moved c.pop.new.self.items c.in-Some.slot c.loop-slot.values.items ∙ (ap (λ l. values_of l ++ reverse c.loop-slot.values.items) (sym c.in-Some.ensures.items) ∙ c.loop-slot.invariant.0)),
  search rules,
  search rules,
)
