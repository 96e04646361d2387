use Rattle.std.proofs.Common.{sym, arith}
use Rattle.rdm_pkt.proofs.Rows.{receipt-is, receipt-takes}
use Rattle.rdm_pkt.specs.Reading.{values_at}
use Rattle.rdm_pkt.proofs.reading.read_receipt.Goals as goal

pub returns-then-bytes-ne12 : goal.returns-then-bytes-ne12
returns-then-bytes-ne12 c = sym (receipt-takes c.args.bytes.now (λ size head. let t = c.if-bytes-ne12.true in absurd (omega arith)))

pub returns-then-not-has_head : goal.returns-then-not-has_head
returns-then-not-has_head c = sym (receipt-takes c.args.bytes.now (λ size head. let t = c.if-not-has_head.ensures in absurd (cc)))

pub returns : goal.returns
unfolding values_at
returns c = rw (c.u32_at.ensures, c.u32_at-2.ensures) (sym (receipt-is c.args.bytes.now (λ i. (c.type_inv.bytes i).fits) c.if-bytes-ne12.false (let t = c.if-not-has_head.ensures in cc)))
