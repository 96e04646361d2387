use Rattle.std.proofs.Common.{◌≡◌, ◌+◌, ◌≤◌, ◌++◌, map, reverse, vec_len, vec_capacity, Some}
use Rattle.rdm_turn.specs.Slots.{block_of}
use Rattle.rdm_turn.proofs.block.into_slots.Given as goal

abbrev pub invariant-loop-slots : goal.invariant-loop-slots
invariant-loop-slots g l =
    (map Some l.values.items ++ reverse l.slots.items ≡ map Some l.fn.values.items) × (vec_len l.values + vec_len l.slots ≤ vec_capacity l.slots)
    × (block_of l.values ≡ block_of l.fn.values)

abbrev pub decreases-loop-slots : goal.decreases-loop-slots
decreases-loop-slots g l = vec_len l.values
