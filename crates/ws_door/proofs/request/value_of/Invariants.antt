use Rattle.std.proofs.Common.{◌≡◌, map, drop}
use Rattle.httparse.specs.Spans.{header_bytes}
use Rattle.ws_door.specs.Requests.{value_of}
use Rattle.ws_door.proofs.request.value_of.Given as goal

abbrev pub invariant-loop-header : goal.invariant-loop-header
invariant-loop-header l = value_of l.name (map (header_bytes l.head) (drop l.header-index l.headers)) ≡ value_of l.name (map (header_bytes l.head) l.headers)
