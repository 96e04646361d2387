use Rattle.std.proofs.Common.{◌≡◌, length, take}
use Rattle.rdm_pool.specs.Places.{HaveEnds, HaveMarks}
use Rattle.rdm_pool.proofs.places.set_ends.Given as goal

abbrev pub invariant-loop-at : goal.invariant-loop-at
invariant-loop-at l = record {
  ends : HaveEnds (take l.at l.places) l.ends;
  ends_stay : length l.ends ≡ length l.fn.ends;
  marks : HaveMarks (take l.at l.places) l.marks;
  marks_stay : length l.marks ≡ length l.fn.marks;
}
