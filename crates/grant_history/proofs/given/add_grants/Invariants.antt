use Rattle.std.proofs.Common.{◌≡◌, ◌++◌, drop}
use Rattle.grant_history.specs.Facts.{grant_facts}
use Rattle.grant_history.proofs.given.add_grants.Given as goal

-- what is there so far with what is left is all
abbrev pub invariant-loop-grant : goal.invariant-loop-grant
invariant-loop-grant l = l.list.items ++ grant_facts (drop l.grant-index l.grants) ≡ l.initial.list.items ++ grant_facts l.grants
