use Rattle.std.proofs.Common.{◌≤◌, vec_len, length}
use Rattle.rdm_inbox.specs.Sharing.{AreDealt, AreRows}
use Rattle.rdm_inbox.proofs.queues.Queues.deal.Given as goal

abbrev pub invariant-loop-row : goal.invariant-loop-row
invariant-loop-row l = record {
  rows : AreRows (length l.initial.all) l.rows.items;
  few : vec_len l.rows ≤ length l.initial.all;
  dealt : AreDealt l.initial.all (vec_len l.rows) l.all;
}

abbrev pub decreases-loop-row : goal.decreases-loop-row
decreases-loop-row l = vec_len l.rows
