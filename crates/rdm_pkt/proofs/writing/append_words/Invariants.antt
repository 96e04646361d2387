use Rattle.std.proofs.Common.{◌≡◌, ◌≤◌, ◌+◌, ◌*◌, ◌++◌, take}
use Rattle.std.specs.Prelude.{map}
use Rattle.std.specs.Vec.{vec_len, vec_capacity}
use Rattle.rdm_hdr.specs.Fields.{Number, fields_bytes}
use Rattle.rdm_pkt.proofs.writing.append_words.Given as goal

abbrev pub invariant-loop-word : goal.invariant-loop-word
invariant-loop-word l = record {
  items : l.to.items ≡ l.fn.to.items ++ fields_bytes (map (Number 8) (take l.word-index l.words));
  len : vec_len l.to ≡ vec_len l.fn.to + 8 * l.word-index;
  room : vec_capacity l.fn.to ≤ vec_capacity l.to;
}
