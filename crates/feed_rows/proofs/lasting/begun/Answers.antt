use Rattle.std.proofs.Common.{arith, rules}
use Rattle.std.proofs.lemmas.List.Sorted.{IsPartitionPoint-from_clause}
use Rattle.feed_rows.specs.Lasting.{is_begun}
use Rattle.feed_rows.proofs.Searching.{parted}
use Rattle.feed_rows.proofs.lasting.begun.Goals as goal

pub returns-clause-before : goal.returns-clause-before
returns-clause-before c =
    let point = IsPartitionPoint-from_clause (λ p. is_begun c.args.channel.now c.args.k p) _ _ c.partition_point.ensures.partitioned (parted c.args.periods.now c.args.channel.now c.args.k c.requires) (λ a r q k. search rules) in
    λ i d h. point.0 i d (omega arith) h

pub returns-clause-after : goal.returns-clause-after
returns-clause-after c =
    let point = IsPartitionPoint-from_clause (λ p. is_begun c.args.channel.now c.args.k p) _ _ c.partition_point.ensures.partitioned (parted c.args.periods.now c.args.channel.now c.args.k c.requires) (λ a r q k. search rules) in
    λ i d low high. point.1 i d low high
