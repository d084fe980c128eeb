use Rattle.std.proofs.Common.{◌≡◌, ◌+◌, ◌*◌, drop, reverse, None}
use Rattle.std.specs.Option.{option_copied}
use Rattle.sg_history.specs.Rules.{broken_mark}
use Rattle.sg_history.proofs.rules.broken_mark.Given as goal

abbrev pub invariant-loop-i : goal.invariant-loop-i
invariant-loop-i l = broken_mark (reverse l.older) (5 * l.i + 3) (option_copied l.before) (drop l.i l.marks) ≡ broken_mark (reverse l.older) 3 None l.marks
