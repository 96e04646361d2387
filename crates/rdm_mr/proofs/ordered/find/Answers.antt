use Rattle.std.proofs.Common.{leb, leb-true, leb-false, rules}
use Rattle.std.proofs.lemmas.List.Sorted.{IsPartitionPoint-from_clause, IsPartitionedBy-leb}
use Rattle.rdm_mr.specs.Part.{Piece, end_of}
use Rattle.rdm_mr.proofs.Order.{ends_in_order}
use Rattle.rdm_mr.proofs.ordered.find.Goals as goal

pub returns-clause-before : goal.returns-clause-before
returns-clause-before c =
    let parted = IsPartitionedBy-leb end_of _ c.args.place (ends_in_order _ _ _ c.requires.2) in
    let point = IsPartitionPoint-from_clause (λ (p : Piece). leb (end_of p) c.args.place) _ _ c.partition_point.ensures.partitioned parted (λ a r q k. search rules) in
    λ k d low lt. leb-true _ _ (point.0 k d low lt)

pub returns-clause-after : goal.returns-clause-after
returns-clause-after c =
    let parted = IsPartitionedBy-leb end_of _ c.args.place (ends_in_order _ _ _ c.requires.2) in
    let point = IsPartitionPoint-from_clause (λ (p : Piece). leb (end_of p) c.args.place) _ _ c.partition_point.ensures.partitioned parted (λ a r q k. search rules) in
    λ k d low lt. leb-false _ _ (point.1 k d low lt)
