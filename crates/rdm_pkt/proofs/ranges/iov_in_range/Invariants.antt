use Rattle.std.proofs.Common.{◌≡◌, true, take}
use Rattle.std.specs.Prelude.{flat_map}
use Rattle.rdm_hdr.specs.Fields.{fields_fit}
use Rattle.rdm_pkt.specs.Grammar.{entry_fields}
use Rattle.rdm_pkt.proofs.ranges.iov_in_range.Given as goal

abbrev pub invariant-loop-entry : goal.invariant-loop-entry
invariant-loop-entry l = fields_fit (flat_map entry_fields (take l.entry-index l.iov)) ≡ true
