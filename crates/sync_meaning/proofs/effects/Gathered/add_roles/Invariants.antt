use Rattle.std.proofs.Common.{◌≡◌, length}
use Rattle.sync_meaning.specs.inner.Arguments.{texts, add_roles_named_to}
use Rattle.sync_meaning.specs.Builtins.{for_each}
use Rattle.sync_meaning.proofs.effects.Gathered.add_roles.Given as goal

abbrev pub invariant-loop-left : goal.invariant-loop-left
invariant-loop-left l = for_each (add_roles_named_to l.fn.place (texts l.fn.roles)) (texts l.left) l.self ≡ for_each (add_roles_named_to l.fn.place (texts l.fn.roles)) (texts l.fn.users) l.fn.self

abbrev pub decreases-loop-left : goal.decreases-loop-left
decreases-loop-left l = length l.left
