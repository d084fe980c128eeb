-- sockets of lines in memory, and what is left of such lines
use Rattle.std.specs.Prelude.{ℕ, List, Option, Some, None}
use Rattle.sg_outside.specs.Wire.{Traffic}
use Rattle.sg_lines.specs.Line.{TraceRecord, shut_trace, socket_trace}
use Rattle.sg_lines.specs.declared.line_socket.LineSocket.{LineSocket}
use Rattle.sg_lines.specs.declared.line_socket.LineTrace.{LineTrace}
use Rattle.sg_lines.specs.declared.line_socket.LineTrace.TheVariants as trace

module _ {W : Type 0} where
  -- the bytes that the line took
  abbrev pub taken_in : LineTrace W → List ℕ
  taken_in (trace.Shut log) = log.taken
  taken_in (trace.Served socket) = socket.log.taken

  -- the wire in a socket
  abbrev pub wire_at : LineSocket W → W
  wire_at socket = socket.wire

  -- the wire of its socket, if it had one
  abbrev pub wire_in : LineTrace W → Option W
  wire_in (trace.Shut log) = None
  wire_in (trace.Served socket) = Some socket.wire

  -- what a line and its socket did, where this is what sockets record
  abbrev pub trace_of : (LineSocket W → Option Traffic) → LineTrace W → Option TraceRecord
  trace_of recorded (trace.Shut log) = shut_trace (Some log)
  trace_of recorded (trace.Served socket) = socket_trace (recorded socket)
