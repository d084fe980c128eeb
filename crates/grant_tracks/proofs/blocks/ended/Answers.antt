use Rattle.std.proofs.Common.{leb, leb-true, arith, rules}
use Rattle.std.proofs.lemmas.Bool.{leb-false}
use Rattle.std.proofs.lemmas.List.Sorted.{IsPartitionPoint-from_clause, IsPartitionedBy-leb}
use Rattle.grant_tracks.proofs.blocks.ended.Goals as goal

pub returns-clause-before : goal.returns-clause-before
returns-clause-before c =
    let parted = IsPartitionedBy-leb (λ b. b.to) _ c.args.k c.requires in
    let point = IsPartitionPoint-from_clause (λ b. leb b.to c.args.k) _ _ c.partition_point.ensures.partitioned parted (λ a r q k. search rules) in
    λ i d h. leb-true _ _ (point.0 i d (omega arith) h)

pub returns-clause-after : goal.returns-clause-after
returns-clause-after c =
    let parted = IsPartitionedBy-leb (λ b. b.to) _ c.args.k c.requires in
    let point = IsPartitionPoint-from_clause (λ b. leb b.to c.args.k) _ _ c.partition_point.ensures.partitioned parted (λ a r q k. search rules) in
    λ i d low high. leb-false _ _ (point.1 i d low high)
