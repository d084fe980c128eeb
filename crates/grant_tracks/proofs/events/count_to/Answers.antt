use Rattle.std.proofs.Common.{leb, leb-true, arith, rules}
use Rattle.std.proofs.lemmas.Bool.{leb-false}
use Rattle.std.proofs.lemmas.List.Sorted.{IsPartitionPoint-from_clause, IsPartitionedBy-leb}
use Rattle.grant_tracks.proofs.Counting.{counted}
use Rattle.grant_tracks.proofs.events.count_to.Goals as goal

pub returns : goal.returns
returns c =
    let parted = IsPartitionedBy-leb (λ p. p) _ c.args.k c.requires in
    let point = IsPartitionPoint-from_clause (λ p. leb p c.args.k) _ _ c.partition_point.ensures.partitioned parted (λ a r q k. search rules) in
    counted c.args.places.now c.args.k c.partition_point.result c.partition_point.ensures.bound
    (λ i d h. leb-true _ _ (point.0 i d (omega arith) h))
    (λ i d low high. leb-false _ _ (point.1 i d low high))
