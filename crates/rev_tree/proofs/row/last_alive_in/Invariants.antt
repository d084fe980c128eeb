use Rattle.std.proofs.Common.{◌≡◌, drop, None}
use Rattle.rev_tree.specs.Rising.{last_alive}
use Rattle.rev_tree.specs.inner.Parts.{joined}
use Rattle.rev_tree.proofs.row.last_alive_in.Given as goal

abbrev pub invariant-loop-i : goal.invariant-loop-i
invariant-loop-i g l = last_alive l.alive (joined g.P.Part.nodes (drop l.i l.parts)) ≡ None
