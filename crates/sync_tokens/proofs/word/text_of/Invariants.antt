use Rattle.std.proofs.Common.{◌≡◌, take, string_bytes}
use Rattle.sync_tokens.specs.Words.{utf8}
use Rattle.sync_tokens.proofs.word.text_of.Given as goal

abbrev pub invariant-loop-c : goal.invariant-loop-c
invariant-loop-c l = string_bytes l.text ≡ utf8 (take l.c-index l.chars)
