use Rattle.std.proofs.Common.{◌≡◌, ◌++◌, drop}
use Rattle.sg_history.specs.Puts.{grantee_in}
use Rattle.grant_history.specs.Facts.{role_facts}
use Rattle.grant_history.proofs.given.add_roles.Given as goal

-- what is there so far with what is left is all
abbrev pub invariant-loop-role : goal.invariant-loop-role
invariant-loop-role l = l.list.items ++ role_facts (grantee_in l.of) (drop l.role-index l.roles) ≡ l.initial.list.items ++ role_facts (grantee_in l.of) l.roles
