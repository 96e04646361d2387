use Rattle.std.proofs.Common.{length, arith, sym, ap, subst}
use Rattle.std.specs.Prelude.{sum_by}
use Rattle.std.proofs.lemmas.List.Sums.{sum_by-take-le}
use Rattle.rdm_model.specs.declared.job.Rank.{Rank}
use Rattle.rdm_model.specs.Jobs as Jobs
use Rattle.rdm_world.specs.Budgets.{IsSmall}
use Rattle.rdm_world.proofs.Budgets.{ranks_small, sums_small, sum_within}
use Rattle.rdm_world.proofs.budget.job_sums.Goals as goal

pub rank_sums-sums-requires : goal.rank_sums-sums-requires
rank_sums-sums-requires c =
    let within = rw c.as_slice-rank-items.ensures at c.loop-rank-test.true in
    let is = rw c.as_slice-rank-items.ensures at c.rank-item.is in
    subst IsSmall (sym is) (ranks_small c.args.job.now c.requires c.loop-rank.rank-index c.rank-item.result within)

pub overflow_add-all : goal.overflow_add-all
overflow_add-all c =
    let within = rw c.as_slice-rank-items.ensures at c.loop-rank-test.true in
    let is = rw c.as_slice-rank-items.ensures at c.rank-item.is in
    let small = (sums_small c.args.job.now c.requires).ops in
    let part = sum_within (λ (r : Rank). length r.ops) c.args.job.now.ranks c.loop-rank.rank-index c.rank-item.result within in
    let one = ap (λ (r : Rank). length r.ops) is in
    omega arith

pub overflow_add-all-in-loop-rank : goal.overflow_add-all-in-loop-rank
overflow_add-all-in-loop-rank c =
    let within = rw c.as_slice-rank-items.ensures at c.loop-rank-test.true in
    let is = rw c.as_slice-rank-items.ensures at c.rank-item.is in
    let small = (sums_small c.args.job.now c.requires).bytes in
    let part = sum_within (λ (r : Rank). sum_by Jobs.sent_length r.ops) c.args.job.now.ranks c.loop-rank.rank-index c.rank-item.result within in
    let one = ap (λ (r : Rank). sum_by Jobs.sent_length r.ops) is in
    omega arith

pub overflow_add-all-in-loop-rank-2 : goal.overflow_add-all-in-loop-rank-2
overflow_add-all-in-loop-rank-2 c =
    let within = rw c.as_slice-rank-items.ensures at c.loop-rank-test.true in
    let is = rw c.as_slice-rank-items.ensures at c.rank-item.is in
    let small = (sums_small c.args.job.now c.requires).opens in
    let part = sum_within (λ (r : Rank). sum_by Jobs.open_count r.ops) c.args.job.now.ranks c.loop-rank.rank-index c.rank-item.result within in
    let one = ap (λ (r : Rank). sum_by Jobs.open_count r.ops) is in
    omega arith

pub returns-clause-few : goal.returns-clause-few
returns-clause-few c =
    let ranks = c.args.job.now.ranks in
    let small = sums_small c.args.job.now c.requires in
    let a = sum_by-take-le (λ (r : Rank). length r.ops) ranks c.loop-rank.rank-index in
    let b = sum_by-take-le (λ (r : Rank). sum_by Jobs.sent_length r.ops) ranks c.loop-rank.rank-index in
    let d = sum_by-take-le (λ (r : Rank). sum_by Jobs.open_count r.ops) ranks c.loop-rank.rank-index in
    (omega (arith, small.ops), omega (arith, small.bytes), omega (arith, small.opens))
