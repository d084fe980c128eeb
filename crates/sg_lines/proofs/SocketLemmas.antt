-- sockets of lines in memory
use Rattle.std.proofs.Common.{◌≡◌, [], List, Option, Some, ap}
use Rattle.sg_outside.specs.declared.wire.Got.{Got}
use Rattle.sg_outside.specs.Wire.{LinkRecord, Traffic}
use Rattle.sg_outside.specs.MemWire.{traffic}
use Rattle.sg_lines.specs.Line.{of_line, BeginsIfRecorded}

-- a wire with a script, of which nothing has come, begins as the socket of a line
pub begins : (line : LinkRecord) (script : List Got) (recorded : Option Traffic) → recorded ≡ Some (traffic script 0 [] []) → BeginsIfRecorded (Some line) (of_line line recorded)
begins line script recorded e = (script, ap (of_line line) e)
