use Rattle.std.proofs.Common.{◌≡◌, length, map}
use Rattle.sync_tokens.specs.Signs.{lookup_sign}
use Rattle.sync_tokens.proofs.sign.lookup.Given as goal

abbrev pub invariant-loop-table : goal.invariant-loop-table
invariant-loop-table l = lookup_sign (map (λ k. (k.0.now, k.1)) l.table) l.chars ≡ lookup_sign (map (λ k. (k.0.now, k.1)) l.initial.table) l.chars

abbrev pub decreases-loop-table : goal.decreases-loop-table
decreases-loop-table l = length l.table
