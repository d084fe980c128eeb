use Rattle.std.proofs.Common.{◌≡◌, ◌+◌, drop}
use Rattle.sync_tokens.specs.Literals.{digits_len}
use Rattle.sync_tokens.proofs.literal.digits_len.Given as goal

abbrev pub invariant-loop-i : goal.invariant-loop-i
invariant-loop-i l = l.i + digits_len (drop l.i l.chars) ≡ digits_len l.chars
