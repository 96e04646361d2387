use Rattle.std.proofs.Common.{refl, append-nil, append_assoc, arith}
use Rattle.rdm_hdr.specs.Fields.{fields_bytes}
use Rattle.rdm_pkt.proofs.PacketBytes.{iov-more}
use Rattle.rdm_pkt.proofs.writing.append_iov.Goals as goal

pub loop-entry-init : goal.loop-entry-init
unfolding fields_bytes
loop-entry-init c = record { items = rw append-nil refl; len = omega arith; room = omega arith }

pub loop-entry-preserved : goal.loop-entry-preserved
loop-entry-preserved c = record {
  items = rw (c.append_u64-in-loop-entry-2.ensures.items, c.append_u64-in-loop-entry.ensures.items, c.append_u64.ensures.items, c.loop-entry.invariant.items, iov-more c.args.iov.now c.loop-entry.entry-index (record { offset = 0; length = 0; key = 0 }) c.loop-entry-test.true) (simp append_assoc refl);
  len = omega arith;
  room = omega arith;
}
