use Rattle.std.proofs.Common.{◌≡◌, drop}
use Rattle.sync_resolve.specs.Faults.{earliest}
use Rattle.sync_resolve.specs.Names.{more}
use Rattle.sync_resolve.specs.Statements as spec
use Rattle.sync_resolve.proofs.simple.declare_all.Given as goal

abbrev pub invariant-loop-one : goal.invariant-loop-one
invariant-loop-one l = record {
  faults : earliest l.first (spec.declaration_walk l.fn.declares (drop l.one-index l.found) l.scope).0
      ≡ earliest l.fn.first (spec.declaration_walk l.fn.declares l.fn.found l.fn.scope).0;
  seen : more l.scope (spec.declaration_walk l.fn.declares (drop l.one-index l.found) l.scope).1
      ≡ more l.fn.scope (spec.declaration_walk l.fn.declares l.fn.found l.fn.scope).1;
}
