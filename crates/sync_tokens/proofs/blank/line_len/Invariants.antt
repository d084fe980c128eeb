use Rattle.std.proofs.Common.{◌≡◌, ◌+◌, drop}
use Rattle.sync_tokens.specs.Blanks.{line_len}
use Rattle.sync_tokens.proofs.blank.line_len.Given as goal

abbrev pub invariant-loop-i : goal.invariant-loop-i
invariant-loop-i l = l.i + line_len (drop l.i l.chars) ≡ line_len l.chars
