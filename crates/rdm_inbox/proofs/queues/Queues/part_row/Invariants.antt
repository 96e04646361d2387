use Rattle.std.proofs.Common.{◌≡◌, ◌≤◌, nat_lt, length, map, take}
use Rattle.std.specs.Prelude.{vec_len, vec_capacity}
use Rattle.rdm_inbox.specs.Letters.{but_last}
use Rattle.rdm_inbox.specs.Queues.{with_reader}
use Rattle.rdm_inbox.specs.Sharing.{parted}
use Rattle.rdm_inbox.proofs.Pointwise.{Changed}
use Rattle.rdm_inbox.proofs.queues.Queues.part_row.Given as goal

abbrev pub invariant-loop-port : goal.invariant-loop-port
invariant-loop-port l = record {
  all : Changed (λ i. nat_lt i l.port) (λ _. with_reader but_last) l.initial.all l.all;
  row : l.row.items ≡ take l.port (map parted l.initial.all);
  filled : vec_len l.row ≡ l.port;
  room : length l.initial.all ≤ vec_capacity l.row;
}
