use Rattle.log_index.specs.Representation.{place_at}
use Rattle.log_index.proofs.SomePut.{SomePut}
use Rattle.log_index.proofs.mark_places.put_some.Given as goal

abbrev pub invariant-loop-left : goal.invariant-loop-left
invariant-loop-left l = SomePut (place_at l.fn.places) (place_at l.places) l.firsts l.sync l.left

abbrev pub decreases-loop-left : goal.decreases-loop-left
decreases-loop-left l = l.left
