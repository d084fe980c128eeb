use Rattle.std.proofs.Common.{◌≡◌, ◌-◌}
use Rattle.sync_syntax.specs.Reading.{separated_from}
use Rattle.sync_syntax.specs.Expressions.{nested, member_rule, some_members}
use Rattle.sync_syntax.proofs.expression.Grammar.some_members.Given as goal

abbrev pub invariant-loop-turn : goal.invariant-loop-turn
invariant-loop-turn g l = some_members (nested l.self.room) l.fn.tokens ≡ separated_from (member_rule (nested l.self.room)) (l._turn-end - l._turn) l.found l.tokens
