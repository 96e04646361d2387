use Rattle.std.proofs.Common.{◌≡◌, nat_le, take, vec_len}
use Rattle.std.specs.Prelude.{slice_get}
use Rattle.rdm_inbox.specs.Sharing.{with_next}
use Rattle.rdm_inbox.proofs.Pointwise.{Changed}
use Rattle.rdm_inbox.proofs.queues.Queues.join_row.Given as goal

abbrev pub invariant-loop-pass : goal.invariant-loop-pass
invariant-loop-pass l = record {
  all : Changed (λ i. nat_le (vec_len l.row) i) (λ i. with_next (slice_get l.initial.row.items i)) l.initial.all l.all;
  row : l.row.items ≡ take (vec_len l.row) l.initial.row.items;
}

abbrev pub decreases-loop-pass : goal.decreases-loop-pass
decreases-loop-pass l = vec_len l.row
