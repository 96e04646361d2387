use Rattle.std.proofs.Common.{◌≡◌, ℕ, ◌<◌, ◌≤◌, ◌++◌, false, drop, get_or, vec_len}
use Rattle.std.specs.Slots.{slots_filled, slots_len, slots_items}
use Rattle.std.specs.Slots.Ownership.{Filled}
use Rattle.rdm_turn.specs.Slots.{values_of, block_of}
use Rattle.rdm_turn.proofs.block.refill.Given as goal

abbrev pub invariant-loop-i : goal.invariant-loop-i
invariant-loop-i g l =
    Filled (slots_filled l.closed.slots) l.i (slots_len l.closed.slots) × ((k : ℕ) → k < l.i → get_or (slots_filled l.closed.slots) k false ≡ false)
    × (slots_len l.closed.slots ≡ slots_len l.fn.closed.slots) × (slots_items l.closed.slots ≡ slots_items l.fn.closed.slots) × (l.i-end ≡ slots_len l.fn.closed.slots)
    × (l.values.items ++ values_of (drop l.i (slots_items l.fn.closed.slots)) ≡ values_of (slots_items l.fn.closed.slots))
    × (vec_len l.values ≤ l.i) × (block_of l.values ≡ block_of l.fn.values)
