-- what a line's socket records, and what is left of a line that was shut
use Rattle.std.specs.Prelude.{◌≡◌, List, [], Option, Some, None}
use Rattle.sg_outside.specs.declared.wire.Got.{Got}
use Rattle.sg_outside.specs.Wire.{LinkRecord, Traffic}

-- what is left of a line: what it recorded until it was shut or its socket was made, and what its socket recorded, if it had one
pub record TraceRecord : Type 0 where
  pub line : LinkRecord
  pub socket : Option Traffic

-- what a socket has recorded at first, to which these results are still to come, of a line that recorded this
abbrev pub new_socket : LinkRecord → List Got → Traffic
new_socket line coming = record { got = []; sent = []; gave = []; coming = coming; line = line }

-- the socket of a line that records has received and sent nothing, and has what the line recorded
abbrev pub BeginsIfRecorded : Option LinkRecord → Option Traffic → Type 0
BeginsIfRecorded None traffic = traffic ≡ None
BeginsIfRecorded (Some line) traffic = (coming : List Got) × (traffic ≡ Some (new_socket line coming))

-- what is left of a line that had no socket
abbrev pub shut_trace : Option LinkRecord → Option TraceRecord
shut_trace None = None
shut_trace (Some line) = Some (record { line = line; socket = None })

-- what is left of a line that had a socket
abbrev pub socket_trace : Option Traffic → Option TraceRecord
socket_trace None = None
socket_trace (Some traffic) = Some (record { line = traffic.line; socket = Some traffic })

-- what a wire records, as the socket of a line that recorded this
abbrev pub of_line : LinkRecord → Option Traffic → Option Traffic
of_line line None = None
of_line line (Some traffic) = Some (record traffic { line = line })
