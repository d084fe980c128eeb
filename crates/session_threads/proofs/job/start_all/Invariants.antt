use Rattle.std.proofs.Common.{◌≡◌, ◌≤◌, ◌+◌, ◌++◌, MatchResult, vec_capacity, length}
use Rattle.session_threads.specs.Pairs.{AllPairs}
use Rattle.session_threads.proofs.job.start_all.Given as goal

abbrev pub invariant-loop-job : goal.invariant-loop-job
invariant-loop-job g l = record {
  room : length l.started.items + length l.job-iterator.rest.items ≤ vec_capacity l.started;
  all : l.fn.jobs.items ≡ l.yielded ++ l.job-iterator.rest.items;
  len : l.job-iterator.rest.len ≡ length l.job-iterator.rest.items;
  count : length l.started.items ≡ length l.yielded;
  started : AllPairs (λ j r. MatchResult r (λ h. h.promise.job.value ≡ j) (λ d. g.J.Job.relates j d)) l.yielded l.started.items;
}
