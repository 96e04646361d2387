use Rattle.std.proofs.Common.{ltb, rules}
use Rattle.std.proofs.lemmas.List.Sorted.{IsPartitionPoint-from_clause, IsPartitionedBy-ltb}
use Rattle.rdm_regions.proofs.Counts.{count_at_point}
use Rattle.rdm_regions.proofs.rising.count_below.Goals as goal

pub returns : goal.returns
returns c =
    let point = IsPartitionPoint-from_clause (λ n. ltb n c.args.bound) c.args.numbers.now c.partition_point.result c.partition_point.ensures.partitioned (IsPartitionedBy-ltb (λ n. n) c.args.numbers.now c.args.bound c.requires) (λ a r q k. search rules) in
    count_at_point (λ n. ltb n c.args.bound) c.args.numbers.now c.partition_point.result c.partition_point.ensures.bound point.0 point.1
