use Rattle.std.proofs.Common.{◌≡◌, ◌++◌, flat_map, length, string_bytes}
use Rattle.sync_print.specs.Spelling.{escaped}
use Rattle.sync_print.proofs.printer.push_all_escaped.Given as goal

abbrev pub invariant-loop-left : goal.invariant-loop-left
invariant-loop-left l = string_bytes l.out ++ flat_map escaped l.left ≡ string_bytes l.fn.out ++ flat_map escaped l.fn.chars

abbrev pub decreases-loop-left : goal.decreases-loop-left
decreases-loop-left l = length l.left
