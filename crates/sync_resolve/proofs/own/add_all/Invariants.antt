use Rattle.std.proofs.Common.{◌≡◌, ◌++◌, map, drop}
use Rattle.sync_resolve.proofs.own.add_all.Given as goal

abbrev pub invariant-loop-one : goal.invariant-loop-one
invariant-loop-one l = l.names ++ map (λ n. n.0.name) (drop l.one-index l.found) ≡ l.fn.names ++ map (λ n. n.0.name) l.fn.found
