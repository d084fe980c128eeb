-- lines in memory
use Rattle.std.specs.Prelude.{ℕ, List, map}
use Rattle.sg_outside.specs.declared.wire.Got.{Got}
use Rattle.sg_outside.specs.Wire.{no_line}
use Rattle.sg_outside.specs.MemWire.{got_of}
use Rattle.sg_lines.specs.declared.inputs.LineInput.{LineInput}
use Rattle.sg_lines.specs.declared.mem_link.MemLink.{MemLink}

-- the inputs that are still to come
abbrev pub coming_by : MemLink → List LineInput
coming_by link = link.inputs

-- the results that come by its socket
abbrev pub frames_by : MemLink → List Got
frames_by link = map got_of link.frames.items

-- the bytes that it took
abbrev pub taken_by : MemLink → List ℕ
taken_by link = link.log.taken

-- the same line, which has recorded nothing yet
abbrev pub renewed_link : MemLink → MemLink
renewed_link link = record link { log = no_line }
