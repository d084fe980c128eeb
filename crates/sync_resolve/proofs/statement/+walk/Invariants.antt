use Rattle.std.proofs.Common.{◌≡◌, drop}
use Rattle.sync_resolve.specs.Faults.{earliest}
use Rattle.sync_resolve.specs.Names.{more}
use Rattle.sync_resolve.specs.Statements as spec
use Rattle.sync_resolve.proofs.statement.+walk.Given as goal

abbrev pub invariant-statements-loop-one : goal.invariant-statements-loop-one
invariant-statements-loop-one l = record {
  faults : earliest l.first (spec.walk_all (drop l.one-index l.found) l.scope).0 ≡ earliest l.fn.first (spec.walk_all l.fn.found l.fn.scope).0;
  seen : more l.scope (spec.walk_all (drop l.one-index l.found) l.scope).1 ≡ more l.fn.scope (spec.walk_all l.fn.found l.fn.scope).1;
}
