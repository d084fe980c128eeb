use Rattle.std.proofs.Common.{◌≡◌, ◌≤◌, ◌+◌, drop}
use Rattle.std.specs.Prelude.{min}
use Rattle.doc_board.specs.Boards.{bytes_stored}
use Rattle.doc_board.proofs.open.bytes_of.Given as goal

abbrev pub invariant-loop-entry : goal.invariant-loop-entry
invariant-loop-entry l = record {
  sum : min (l.bytes + bytes_stored (drop l.entry-index l.entries)) 18446744073709551615 ≡ min (bytes_stored l.entries) 18446744073709551615;
  small : l.bytes ≤ 18446744073709551615;
}
