use Rattle.std.proofs.Common.{◌≡◌, ◌+◌, ◌-◌, ◌*◌, ◌++◌}
use Rattle.arrayvec.specs.ArrayVec.{array_vec_len}
use Rattle.rdm_pkt.specs.Reading.{iov_at}
use Rattle.rdm_pkt.proofs.read_list.read_iov.Given as goal

abbrev pub invariant-loop-k : goal.invariant-loop-k
invariant-loop-k l = record {
  ranges : l.iov.items ++ iov_at (l.place + 24 * l.k) (l.count - l.k) l.bytes ≡ iov_at l.place l.count l.bytes;
  len : array_vec_len l.iov ≡ l.k;
}
