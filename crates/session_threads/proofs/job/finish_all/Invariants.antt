use Rattle.std.proofs.Common.{◌≡◌, ◌≤◌, ◌+◌, List, MatchResult, vec_capacity, length}
use Rattle.session_threads.specs.Pairs.{AllPairs}
use Rattle.session_threads.proofs.Pairs.{Done}
use Rattle.session_threads.proofs.job.finish_all.Given as goal

abbrev pub decreases-loop-started : goal.decreases-loop-started
decreases-loop-started g l = length l.started.items

abbrev pub invariant-loop-started : goal.invariant-loop-started
invariant-loop-started g l = record {
  room : length l.done.items + length l.started.items ≤ vec_capacity l.done;
  done : (jobs : List g.row.J.Denot) → AllPairs (λ j r. MatchResult r (λ h. h.promise.job.value ≡ j) (λ d. g.J.Job.relates j d)) jobs l.fn.started.items
      → Done (λ j r. MatchResult r (λ h. h.promise.job.value ≡ j) (λ d. g.J.Job.relates j d)) g.J.Job.relates jobs l.started.items l.done.items;
}
