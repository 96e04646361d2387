use Rattle.std.proofs.Common.{leb, leb-true, leb-false, rules}
use Rattle.std.proofs.lemmas.List.Sorted.{IsPartitionPoint-from_clause, IsPartitionedBy-leb}
use Rattle.rdm_land.specs.declared.spans.Span.{Span}
use Rattle.rdm_land.proofs.Order.{ends_in_order}
use Rattle.rdm_land.proofs.spans.find.Goals as goal

pub returns-clause-before : goal.returns-clause-before
returns-clause-before c =
    let parted = IsPartitionedBy-leb (λ (s : Span). s.end) _ c.args.place (ends_in_order _ _ _ _ c.requires.2) in
    let point = IsPartitionPoint-from_clause (λ (s : Span). leb s.end c.args.place) _ _ c.partition_point.ensures.partitioned parted (λ a r q k. search rules) in
    λ k d low lt. leb-true _ _ (point.0 k d low lt)

pub returns-clause-after : goal.returns-clause-after
returns-clause-after c =
    let parted = IsPartitionedBy-leb (λ (s : Span). s.end) _ c.args.place (ends_in_order _ _ _ _ c.requires.2) in
    let point = IsPartitionPoint-from_clause (λ (s : Span). leb s.end c.args.place) _ _ c.partition_point.ensures.partitioned parted (λ a r q k. search rules) in
    λ k d low lt. leb-false _ _ (point.1 k d low lt)
