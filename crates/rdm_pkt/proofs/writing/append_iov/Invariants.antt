use Rattle.std.proofs.Common.{◌≡◌, ◌≤◌, ◌+◌, ◌*◌, ◌++◌, take}
use Rattle.std.specs.Prelude.{flat_map}
use Rattle.std.specs.Vec.{vec_len, vec_capacity}
use Rattle.rdm_hdr.specs.Fields.{fields_bytes}
use Rattle.rdm_pkt.specs.Grammar.{entry_fields}
use Rattle.rdm_pkt.proofs.writing.append_iov.Given as goal

abbrev pub invariant-loop-entry : goal.invariant-loop-entry
invariant-loop-entry l = record {
  items : l.to.items ≡ l.fn.to.items ++ fields_bytes (flat_map entry_fields (take l.entry-index l.iov));
  len : vec_len l.to ≡ vec_len l.fn.to + 24 * l.entry-index;
  room : vec_capacity l.fn.to ≤ vec_capacity l.to;
}
