use Rattle.std.proofs.Common.{◌≡◌, length}
use Rattle.sync_meaning.specs.inner.Arguments.{texts, add_role_named}
use Rattle.sync_meaning.specs.Builtins.{for_each}
use Rattle.sync_meaning.proofs.effects.Gathered.add_roles_to.Given as goal

abbrev pub invariant-loop-left : goal.invariant-loop-left
invariant-loop-left l = for_each (add_role_named l.fn.place l.fn.user) (texts l.left) l.self ≡ for_each (add_role_named l.fn.place l.fn.user) (texts l.fn.roles) l.fn.self

abbrev pub decreases-loop-left : goal.decreases-loop-left
decreases-loop-left l = length l.left
