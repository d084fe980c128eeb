use Rattle.std.proofs.Common.{◌≡◌, ◌-◌}
use Rattle.sync_syntax.specs.Expressions.{nested, suffixes_from, all_suffixes}
use Rattle.sync_syntax.proofs.expression.Grammar.suffixes.Given as goal

abbrev pub invariant-loop-turn : goal.invariant-loop-turn
invariant-loop-turn g l = all_suffixes (nested l.self.room) l.fn.tokens ≡ suffixes_from (nested l.self.room) (l._turn-end - l._turn) l.found l.tokens
