use Rattle.std.proofs.Common.{sym, arith}
use Rattle.rdm_pkt.proofs.Rows.{cts-is, cts-takes}
use Rattle.rdm_pkt.specs.Reading.{values_at}
use Rattle.rdm_pkt.proofs.reading.read_cts.Goals as goal

pub returns-then-bytes-ne24 : goal.returns-then-bytes-ne24
returns-then-bytes-ne24 c = sym (cts-takes c.args.bytes.now (λ size head some. let t = c.if-bytes-ne24.true in absurd (omega arith)))

pub returns-then-not-has_head : goal.returns-then-not-has_head
returns-then-not-has_head c = sym (cts-takes c.args.bytes.now (λ size head some. let t = c.if-not-has_head.ensures in absurd (cc)))

pub returns-then-recv_length-eq0 : goal.returns-then-recv_length-eq0
returns-then-recv_length-eq0 c = sym (cts-takes c.args.bytes.now (λ size head some. let t = c.if-recv_length-eq0.true in absurd (omega arith)))

pub returns : goal.returns
unfolding values_at
returns c =
    let some = c.if-recv_length-eq0.false in
    rw (c.u32_at.ensures, c.u32_at-2.ensures, c.u32_at-3.ensures, c.u64_at-recv_length.ensures)
    (sym (cts-is c.args.bytes.now (λ i. (c.type_inv.bytes i).fits) c.if-bytes-ne24.false (let t = c.if-not-has_head.ensures in cc) (omega arith)))
