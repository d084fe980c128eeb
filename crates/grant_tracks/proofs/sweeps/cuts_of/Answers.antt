use Rattle.std.proofs.lemmas.List.Sorted.{IsNonDecreasingBy-from_sort}
use Rattle.grant_tracks.specs.Ways.{ways_have}
use Rattle.grant_tracks.proofs.Cutting.{sorted_steady}
use Rattle.grant_tracks.proofs.sweeps.cuts_of.Goals as goal

pub returns-clause-steady : goal.returns-clause-steady
returns-clause-steady c =
    sorted_steady c.new-cuts.result.items c.add_cuts.new.cuts.items c.sort_unstable.new.self.items (ways_have c.args.ways.now)
    c.in_ok-add_cuts.ensures c.sort_unstable.ensures.permutation

pub returns-clause-rise : goal.returns-clause-rise
returns-clause-rise c = λ i j d le within. IsNonDecreasingBy-from_sort (λ x. x) c.sort_unstable.new.self.items c.sort_unstable.ensures.sorted i j d le within
