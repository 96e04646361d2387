use Rattle.std.proofs.Common.{◌≡◌, Option, Some, None, true, is_some, sym, option_copied, Bor}
use Rattle.rdm_slots.proofs.Empty.{listed-write, listed-rewrite}
use Rattle.rdm_slots.proofs.Slots.get_mut.Goals as goal

-- what a reference that is there shows
shown : {T : Type 0} (r : Option (Bor T)) (o : Option T) → option_copied r ≡ o → is_some r ≡ true → (value : T) × (o ≡ Some value)
shown None o is there = absurd (cc)
shown (Some x) o is there = (x.now, sym is)

pub invariant_of-self-lent : goal.invariant_of-self-lent
invariant_of-self-lent g c o =
    let held = shown c.get.result _ c.get.ensures c.if-is_none.ensures in
    ((λ w. listed-write _ _ _ _ held.0 w held.1 c.self.invariant), listed-rewrite _ _ _ _ _ c.index_mut.ensures.value c.self.invariant)
