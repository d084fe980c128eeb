use Rattle.std.proofs.Common.{◌≡◌, List, take}
use Rattle.sg_history.specs.declared.entries.Entry.{Entry}
use Rattle.log_index.specs.Representation.{HasPlaces, firsts_of}
use Rattle.log_index.proofs.tables.Tables.firsts.Given as goal

abbrev pub invariant-loop-mark : goal.invariant-loop-mark
invariant-loop-mark l = (es : List Entry) → HasPlaces l.self es → l.list.items ≡ firsts_of es (take l.mark-index l.marks)
