use Rattle.std.proofs.Common.{◌≡◌, ◌+◌, ◌≤◌, ◌++◌, reverse, vec_len, vec_capacity}
use Rattle.rdm_turn.specs.Slots.{values_of, block_of}
use Rattle.rdm_turn.proofs.block.from_slots.Given as goal

abbrev pub invariant-loop-slot : goal.invariant-loop-slot
invariant-loop-slot g l =
    (values_of l.slots.items ++ reverse l.values.items ≡ values_of l.fn.slots.items) × (vec_len l.values + vec_len l.slots ≤ vec_capacity l.values)
    × (block_of l.values ≡ block_of l.fn.values)

abbrev pub decreases-loop-slot : goal.decreases-loop-slot
decreases-loop-slot g l = vec_len l.slots
