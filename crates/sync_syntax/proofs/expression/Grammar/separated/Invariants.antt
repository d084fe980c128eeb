use Rattle.std.proofs.Common.{◌≡◌, ◌-◌, false}
use Rattle.sync_syntax.specs.Reading.{separated_from}
use Rattle.sync_syntax.specs.Expressions.{nested, separated_in}
use Rattle.sync_syntax.proofs.expression.Grammar.separated.Given as goal

abbrev pub invariant-loop-turn : goal.invariant-loop-turn
invariant-loop-turn g l = separated_in (nested l.self.room) l.fn.tokens ≡ separated_from (nested l.self.room false) (l._turn-end - l._turn) l.found l.tokens
