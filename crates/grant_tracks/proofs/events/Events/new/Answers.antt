use Rattle.std.proofs.lemmas.List.Sorted.{IsNonDecreasingBy-from_sort}
use Rattle.grant_tracks.proofs.Counting.{open_sorted}
use Rattle.grant_tracks.proofs.events.Events.new.Goals as goal

pub returns : goal.returns
returns c = open_sorted c.args.begins.items c.args.ends.items c.sort_unstable.new.self.items c.sort_unstable-2.new.self.items c.sort_unstable.ensures.permutation c.sort_unstable-2.ensures.permutation

pub invariant_of-result : goal.invariant_of-result
invariant_of-result c = record {
  begins_rise = IsNonDecreasingBy-from_sort (λ x. x) c.sort_unstable.new.self.items c.sort_unstable.ensures.sorted;
  ends_rise = IsNonDecreasingBy-from_sort (λ x. x) c.sort_unstable-2.new.self.items c.sort_unstable-2.ensures.sorted;
}
