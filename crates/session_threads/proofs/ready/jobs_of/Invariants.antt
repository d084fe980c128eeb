use Rattle.std.proofs.Common.{◌≡◌, ◌≤◌, ◌+◌, ◌++◌, length, vec_capacity}
use Rattle.seq_gate.specs.Passes.{split_off}
use Rattle.session_threads.specs.Pairs.{AllPairs}
use Rattle.session_threads.specs.inner.Runs.{IsLessBy}
use Rattle.session_threads.proofs.ready.jobs_of.Given as goal

abbrev pub invariant-loop-one : goal.invariant-loop-one
invariant-loop-one g l = record {
  here : l.pass.gate ≡ l.fn.gate;
  less : IsLessBy l.fn.pass.knows (length l.yielded) l.pass.knows;
  room : length l.jobs.items + length l.one-iterator.rest.items ≤ vec_capacity l.jobs;
  all : l.fn.ready.items ≡ l.yielded ++ l.one-iterator.rest.items;
  len : l.one-iterator.rest.len ≡ length l.one-iterator.rest.items;
  jobs : AllPairs (λ r j. (j.ground.gate ≡ l.fn.gate) × (j.ground.knows ≡ split_off l.fn.pass.knows) × (j.setup ≡ r.setup) × (j.wire ≡ r.wire)) l.yielded l.jobs.items;
}
