use Rattle.std.proofs.Common.{◌≡◌}
use Rattle.bench_messages.proofs.frames.framed.Given as goal

-- both sides have one checksum
abbrev pub invariant-loop-number : goal.invariant-loop-number
invariant-loop-number l = l.received.value ≡ l.sent.value
