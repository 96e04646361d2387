use Rattle.std.proofs.Common.{◌≡◌, replicate, None, vec_capacity, length}
use Rattle.rdm_slots.specs.Kept.{AreEmptyPlaces}
use Rattle.rdm_slots.proofs.Slots.new.Given as goal

-- so many places as the turns, all empty and all listed
abbrev pub invariant-loop-place : goal.invariant-loop-place
invariant-loop-place g l = record {
  places : l.places.items ≡ replicate l.place None;
  empty : AreEmptyPlaces l.places.items l.empty.items;
  all : length l.empty.items ≡ l.place;
  room : (vec_capacity l.places ≡ l.size) × (vec_capacity l.empty ≡ l.size);
}
