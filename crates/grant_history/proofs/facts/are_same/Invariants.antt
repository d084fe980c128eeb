use Rattle.std.proofs.Common.{◌≡◌, drop}
use Rattle.grant_history.specs.Facts.{same_facts}
use Rattle.grant_history.proofs.facts.are_same.Given as goal

-- what is left is the same where all is
abbrev pub invariant-loop-i : goal.invariant-loop-i
invariant-loop-i l = same_facts (drop l.i l.one) (drop l.i l.other) ≡ same_facts l.one l.other
