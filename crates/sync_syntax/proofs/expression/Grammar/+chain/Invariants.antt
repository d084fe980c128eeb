use Rattle.std.proofs.Common.{◌≡◌, ◌-◌, ◌*◌}
use Rattle.sync_syntax.specs.Expressions.{chain_in, tails_in, tails_from}
use Rattle.sync_syntax.proofs.expression.Grammar.+chain.Given as goal

abbrev pub decreases-chain : goal.decreases-chain
decreases-chain g l = 2 * l.level

abbrev pub decreases-tails : goal.decreases-tails
decreases-tails g l = 2 * l.level - 1

abbrev pub invariant-tails-loop-turn : goal.invariant-tails-loop-turn
invariant-tails-loop-turn g l =
    tails_in l.self.room l.level l.fn.tokens ≡ tails_from l.level (chain_in l.self.room (l.level - 1)) (l._turn-end - l._turn) l.found l.tokens
