use Rattle.std.proofs.Common.{refl, append-nil, append_assoc, arith}
use Rattle.rdm_hdr.specs.Fields.{fields_bytes}
use Rattle.rdm_pkt.proofs.PacketBytes.{words-more}
use Rattle.rdm_pkt.proofs.writing.append_words.Goals as goal

pub loop-word-init : goal.loop-word-init
unfolding fields_bytes
loop-word-init c = record { items = rw append-nil refl; len = omega arith; room = omega arith }

pub loop-word-preserved : goal.loop-word-preserved
loop-word-preserved c = record {
  items = rw (c.append_u64.ensures.items, c.loop-word.invariant.items, words-more c.args.words.now c.loop-word.word-index c.loop-word-test.true) (simp append_assoc refl);
  len = omega arith;
  room = omega arith;
}
