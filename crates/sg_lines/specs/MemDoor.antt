-- doors in memory
use Rattle.std.specs.Prelude.{ℕ, List, vec_capacity}
use Rattle.sg_outside.specs.declared.mem_wire.MemWire.{MemWire}
use Rattle.sg_lines.specs.declared.door.Opening.{Opening}
use Rattle.sg_lines.specs.declared.line_socket.LineTrace.{LineTrace}
use Rattle.sg_lines.specs.declared.mem_door.MemDoor.{MemDoor}
use Rattle.sg_lines.specs.declared.mem_link.MemLink.{MemLink}

-- the words of each opening
abbrev pub openings_of : MemDoor → List Opening
openings_of door = door.state.openings.items

-- the traces for which there was a place
abbrev pub traces_of : MemDoor → List (LineTrace MemWire)
traces_of door = door.state.traces.items

-- the places that were made for traces
abbrev pub places_of : MemDoor → ℕ
places_of door = vec_capacity door.state.traces

-- the lines that are still to come
abbrev pub waiting_at : MemDoor → List MemLink
waiting_at door = door.state.lines.items
