use Rattle.std.proofs.Common.{◌∙◌, arith}
use Rattle.std.proofs.lemmas.List.{length-replicate, length-set}
use Rattle.rdm_pool.proofs.Following.{zeros, ends-more, below_at}
use Rattle.rdm_pool.proofs.Marked.{marks-more}
use Rattle.rdm_pool.proofs.places.set_ends.Goals as goal

pub loop-at-init : goal.loop-at-init
loop-at-init c = record {
  ends = rw c.clear.ensures (zeros _);
  ends_stay = rw c.clear.ensures (length-replicate _ 0);
  marks = rw c.clear-2.ensures (zeros _);
  marks_stay = rw c.clear-2.ensures (length-replicate _ 0);
}

pub end-requires : goal.end-requires
end-requires c = below_at 4294967295 c.args.places.now c.loop-at.at _ c.requires.below c.loop-at-test.true

pub mark_end-requires : goal.mark_end-requires
mark_end-requires c = below_at 4294967295 c.args.places.now c.loop-at.at _ c.requires.below c.loop-at-test.true

pub loop-at-preserved : goal.loop-at-preserved
loop-at-preserved c = record {
  ends = rw (c.set.ensures, c.end.ensures) (ends-more c.args.places.now c.loop-at.ends c.loop-at.at _ c.loop-at-test.true (omega (arith, c.requires.room, c.loop-at.invariant.ends_stay)) c.loop-at.invariant.ends);
  ends_stay = rw c.set.ensures (length-set c.loop-at.ends c.loop-at.at _ ∙ c.loop-at.invariant.ends_stay);
  marks = rw (c.set-in-loop-at.ensures, c.mark_end.ensures) (marks-more c.args.places.now c.loop-at.marks c.loop-at.at _ c.loop-at-test.true (omega (arith, c.requires.marks_room, c.loop-at.invariant.marks_stay)) c.loop-at.invariant.marks);
  marks_stay = rw c.set-in-loop-at.ensures (length-set c.loop-at.marks c.loop-at.at _ ∙ c.loop-at.invariant.marks_stay);
}
