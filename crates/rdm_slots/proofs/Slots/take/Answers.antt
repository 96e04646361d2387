use Rattle.std.proofs.Common.{None, sym, ◌∙◌}
use Rattle.rdm_slots.proofs.Empty.{listed-take}
use Rattle.rdm_slots.proofs.Slots.take.Goals as goal

pub invariant_of-self-2 : goal.invariant_of-self-2
invariant_of-self-2 g c =
    let read = sym (c.in_ok-get_mut.ensures.item.3.1 None) ∙ sym c.take.ensures.value ∙ c.in_ok-value.was in
    rw (c.take.ensures.after, c.push_reserved.ensures.items, c.push_reserved.ensures.capacity) (listed-take _ _ _ _ c.in_ok-value.value read c.self.invariant)
