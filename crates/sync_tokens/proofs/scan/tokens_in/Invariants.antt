use Rattle.std.proofs.Common.{◌≡◌, ◌++◌, drop}
use Rattle.sync_tokens.specs.Scan.{tokens_in, tokens_from}
use Rattle.sync_tokens.proofs.scan.tokens_in.Given as goal

abbrev pub invariant-loop-at : goal.invariant-loop-at
invariant-loop-at l = l.all.items ++ tokens_from l.left l.place (drop l.at l.text) ≡ tokens_in l.text
