use Rattle.std.proofs.Common.{◌≡◌, drop}
use Rattle.sg_history.specs.Journal.{falls_from}
use Rattle.sg_history.proofs.rules.falls_from.Given as goal

abbrev pub invariant-loop-rev : goal.invariant-loop-rev
invariant-loop-rev l = falls_from l.last (drop l.rev-index l.revs) ≡ falls_from l.generation l.revs
