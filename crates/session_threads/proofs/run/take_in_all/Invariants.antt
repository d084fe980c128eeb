use Rattle.std.proofs.Common.{◌≡◌, ◌≤◌, ◌+◌, ◌++◌, length, map, vec_capacity}
use Rattle.write_path.specs.Shared.{Rests}
use Rattle.session_threads.specs.Pairs.{AllOf, AllPairs}
use Rattle.session_threads.specs.inner.Runs.{joined_all}
use Rattle.session_threads.proofs.run.take_in_all.Given as goal

abbrev pub invariant-loop-one : goal.invariant-loop-one
invariant-loop-one g l = record {
  here : l.pass.gate ≡ l.fn.gate;
  room : length l.ended.items + length l.one-iterator.rest.items ≤ vec_capacity l.ended;
  all : l.fn.done.items ≡ l.yielded ++ l.one-iterator.rest.items;
  len : l.one-iterator.rest.len ≡ length l.one-iterator.rest.items;
  others : AllOf (λ d. d.ground.gate ≡ l.fn.gate) l.one-iterator.rest.items;
  knows : l.pass.knows ≡ joined_all l.fn.pass.knows (map (λ d. d.ground.knows) l.yielded);
  ended : AllPairs (λ d e. (e.wire ≡ d.wire) × (e.ended ≡ d.ended) × Rests d.ground.knows) l.yielded l.ended.items;
}
