use Rattle.std.proofs.Common.{◌≡◌, ◌-◌}
use Rattle.sync_syntax.specs.Statements.{block_in, block_from, statement}
use Rattle.sync_syntax.proofs.statement.Statements.block.Given as goal

abbrev pub invariant-loop-turn : goal.invariant-loop-turn
invariant-loop-turn g l =
    block_in l.self.room l.in_loop l.fn.tokens ≡ block_from l.self.room (statement l.self.room) l.in_loop (l._turn-end - l._turn) l.found l.tokens
