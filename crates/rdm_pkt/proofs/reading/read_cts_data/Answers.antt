use Rattle.std.proofs.Common.{◌≡◌, ◌<◌, ◌+◌, ◌^◌, length, drop, sym, ap, arith}
use Rattle.rdm_hdr.specs.Fields.{number_at}
use Rattle.rdm_pkt.proofs.Rows.{cts_data-is, cts_data-takes}
use Rattle.rdm_pkt.specs.Reading.{values_at}
use Rattle.rdm_pkt.proofs.reading.read_cts_data.Goals as goal

pub returns-then-bytes-le28 : goal.returns-then-bytes-le28
returns-then-bytes-le28 c = sym (cts_data-takes c.args.bytes.now (λ i. (c.type_inv.bytes i).fits) (λ size head same room. let t = c.if-bytes-le28.true in absurd (omega arith)))

pub returns-then-not-has_head : goal.returns-then-not-has_head
returns-then-not-has_head c = sym (cts_data-takes c.args.bytes.now (λ i. (c.type_inv.bytes i).fits) (λ size head same room. let t = c.if-not-has_head.ensures in absurd (cc)))

pub returns-then-u64_at-seg_length : goal.returns-then-u64_at-seg_length
returns-then-u64_at-seg_length c = sym (cts_data-takes c.args.bytes.now (λ i. (c.type_inv.bytes i).fits) (λ size head same room. let t = c.if-u64_at-seg_length.true in let e = ap length c.after-data.ensures in absurd (omega arith)))

pub returns-then-offset-seg_length : goal.returns-then-offset-seg_length
returns-then-offset-seg_length c = sym (cts_data-takes c.args.bytes.now (λ i. (c.type_inv.bytes i).fits) (λ size head same room. let t = c.if-offset-seg_length.true in let e = ap length c.after-data.ensures in absurd (omega arith)))

pub returns : goal.returns
unfolding values_at
returns c =
    let e = ap length c.after-data.ensures in
    let same : number_at 8 8 c.args.bytes.now ≡ length (drop 28 c.args.bytes.now) = let t = c.if-u64_at-seg_length.false in omega arith in
    let room : number_at 16 8 c.args.bytes.now + length (drop 28 c.args.bytes.now) < 2 ^ 64 = let t = c.if-offset-seg_length.false in omega arith in
    rw (c.u32_at.ensures, c.u32_at-2.ensures, c.u64_at-offset.ensures, c.in_ok-from_slice.ensures, c.after-data.ensures)
    (sym (cts_data-is c.args.bytes.now (λ i. (c.type_inv.bytes i).fits) c.if-bytes-le28.false (let t = c.if-not-has_head.ensures in cc) same room))
