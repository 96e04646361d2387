use Rattle.std.proofs.Common.{sym, arith}
use Rattle.rdm_pkt.proofs.Rows.{eor-is, eor-takes}
use Rattle.rdm_pkt.specs.Reading.{values_at}
use Rattle.rdm_pkt.proofs.reading.read_eor.Goals as goal

pub returns-then-bytes-ne16 : goal.returns-then-bytes-ne16
returns-then-bytes-ne16 c = sym (eor-takes c.args.bytes.now (λ size head. let t = c.if-bytes-ne16.true in absurd (omega arith)))

pub returns-then-not-has_head : goal.returns-then-not-has_head
returns-then-not-has_head c = sym (eor-takes c.args.bytes.now (λ size head. let t = c.if-not-has_head.ensures in absurd (cc)))

pub returns : goal.returns
unfolding values_at
returns c = rw (c.u32_at.ensures, c.u32_at-2.ensures, c.u32_at-3.ensures) (sym (eor-is c.args.bytes.now (λ i. (c.type_inv.bytes i).fits) c.if-bytes-ne16.false (let t = c.if-not-has_head.ensures in cc)))
