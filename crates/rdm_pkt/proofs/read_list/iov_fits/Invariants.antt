use Rattle.std.proofs.Common.{◌≡◌, ◌+◌, true, take}
use Rattle.std.specs.Prelude.{sum_by}
use Rattle.std.specs.List.{list_all}
use Rattle.rdm_num.specs.declared.lists.IovEntry.{IovEntry}
use Rattle.rdm_pkt.proofs.ReadLists.{entry_test}
use Rattle.rdm_pkt.proofs.read_list.iov_fits.Given as goal

abbrev pub invariant-loop-entry : goal.invariant-loop-entry
invariant-loop-entry l = record {
  good : list_all entry_test (take l.entry-index l.iov) ≡ true;
  sum : sum_by (λ (e : IovEntry). e.length) (take l.entry-index l.iov) + l.left ≡ l.size;
}
