use Rattle.std.proofs.Common.{◌≡◌, ◌-◌}
use Rattle.sync_syntax.specs.Reading.{separated_from}
use Rattle.sync_syntax.specs.Statements.{declared_rule, more_declared}
use Rattle.sync_syntax.proofs.simple.Parts.more_declared.Given as goal

abbrev pub invariant-loop-turn : goal.invariant-loop-turn
invariant-loop-turn l = more_declared l.self.room l.fn.tokens ≡ separated_from (declared_rule l.self.room) (l._turn-end - l._turn) l.found l.tokens
