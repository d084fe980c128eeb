use Rattle.std.proofs.Common.{◌≡◌, ◌+◌, drop, option_map}
use Rattle.sync_tokens.specs.Blanks.{comment_len, comment_from}
use Rattle.sync_tokens.proofs.blank.comment_len.Given as goal

abbrev pub invariant-loop-i : goal.invariant-loop-i
invariant-loop-i l = option_map (λ n. l.i + n) (comment_from l.star (drop l.i l.chars)) ≡ comment_len l.chars
