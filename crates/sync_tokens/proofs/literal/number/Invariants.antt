use Rattle.std.proofs.Common.{◌≡◌, ◌≤◌, take}
use Rattle.sync_tokens.specs.Literals.{number}
use Rattle.sync_tokens.proofs.literal.number.Given as goal

abbrev pub invariant-loop-c : goal.invariant-loop-c
invariant-loop-c l = (l.n ≡ number (take l.c-index l.digits)) × (l.n ≤ 9007199254740992)
