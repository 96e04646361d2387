use Rattle.std.proofs.Common.{ltb, ltb-true, ltb-false, rules, arith, ap, sym, subst, ◌∙◌}
use Rattle.std.specs.List.{insert}
use Rattle.std.specs.List.Sorted.{IsNonDecreasing}
use Rattle.std.proofs.lemmas.List.Sorted.{IsPartitionPoint-from_clause, IsPartitionedBy-ltb, IsNonDecreasingBy-insert}
use Rattle.rdm_regions.proofs.rising.put.Goals as goal

pub returns-clause-rising : goal.returns-clause-rising
returns-clause-rising c =
    let xs = c.deref.result.now in
    let n = c.args.number in
    let i = c.partition_point-i.result in
    let is = c.deref.ensures.value in
    let rise : IsNonDecreasing xs = subst IsNonDecreasing (sym is) c.requires.rising in
    let point = IsPartitionPoint-from_clause (λ m. ltb m n) xs i c.partition_point-i.ensures.partitioned (IsPartitionedBy-ltb (λ m. m) xs n rise) (λ a r q k. search rules) in
    let all : IsNonDecreasing (insert xs i n) = IsNonDecreasingBy-insert (λ m. m) xs i n rise c.partition_point-i.ensures.bound
    (λ k d lt. let h = ltb-true _ n (point.0 k d (omega arith) lt) in omega (arith, h))
    (λ k d le lt. ltb-false _ n (point.1 k d le lt)) in
    subst IsNonDecreasing (ap (λ ys. insert ys i n) is ∙ sym c.in-Ok.ensures.items) all
