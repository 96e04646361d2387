use Rattle.std.proofs.Common.{◌≡◌, count_by, is_some, length}
use Rattle.rdm_slots.proofs.Slots.end.Given as goal

-- no place has a value
abbrev pub invariant-loop-place : goal.invariant-loop-place
invariant-loop-place g l = count_by is_some l.places.items ≡ 0

abbrev pub decreases-loop-place : goal.decreases-loop-place
decreases-loop-place g l = length l.places.items
