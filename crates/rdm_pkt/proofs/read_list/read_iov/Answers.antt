use Rattle.std.proofs.Common.{ℕ, List, length, sym, ap, ◌∙◌, arith}
use Rattle.std.specs.Prelude.{nat_lt}
use Rattle.std.specs.Bool.{then_some}
use Rattle.rdm_num.specs.declared.lists.IovEntry.{IovEntry}
use Rattle.rdm_pkt.specs.Reading.{iov_at}
use Rattle.rdm_pkt.proofs.ReadLists.{iov_at-next, iov_at-last, length-iov_at}
use Rattle.rdm_pkt.proofs.read_list.read_iov.Goals as goal

pub loop-k-preserved : goal.loop-k-preserved
loop-k-preserved c = record {
  ranges = rw (c.push.ensures.items, c.u64_at.ensures, c.u64_at-in-loop-k.ensures, c.u64_at-in-loop-k-2.ensures) (iov_at-next c.args.count c.loop-k.k c.args.place c.loop-k.iov.items c.args.bytes.now c.loop-k-test.true ∙ c.loop-k.invariant.ranges);
  len = (let pushed = c.push.ensures.len in let so_far = c.loop-k.invariant.len in omega arith);
}

pub returns : goal.returns
returns c =
    let all = sym (iov_at-last c.args.count c.loop-k.k c.args.place c.loop-k.iov.items c.args.bytes.now c.loop-k-test.false) ∙ c.loop-k.invariant.ranges in
    c.from_array_vec.ensures
    ∙ ap (λ (items : List IovEntry). then_some (nat_lt 0 (length items)) items) all
    ∙ ap (λ (n : ℕ). then_some (nat_lt 0 n) (iov_at c.args.place c.args.count c.args.bytes.now)) (length-iov_at c.args.place c.args.count c.args.bytes.now)
