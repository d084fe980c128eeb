use Rattle.std.proofs.Common.{◌≡◌, ◌+◌, drop}
use Rattle.sync_tokens.specs.Words.{word_len}
use Rattle.sync_tokens.proofs.word.word_len.Given as goal

abbrev pub invariant-loop-i : goal.invariant-loop-i
invariant-loop-i l = l.i + word_len (drop l.i l.chars) ≡ word_len l.chars
