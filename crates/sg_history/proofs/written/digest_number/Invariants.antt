use Rattle.std.proofs.Common.{◌≡◌, drop}
use Rattle.sg_history.specs.inner.Written.{digest_number}
use Rattle.sg_history.proofs.written.digest_number.Given as goal

abbrev pub invariant-loop-byte : goal.invariant-loop-byte
invariant-loop-byte l = digest_number l.number (drop l.byte-index l.digest) ≡ digest_number 0 l.digest
