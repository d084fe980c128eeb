use Rattle.std.proofs.Common.{◌≡◌, ◌-◌, IsTrue}
use Rattle.sync_meaning.specs.declared.scope.Scope.{Scope}
use Rattle.sync_meaning.specs.Statements.{all_rounds, rounds, run}
use Rattle.sync_code.specs.Code.{source_or_none}
use Rattle.sync_code.specs.Steps.{plain_or_none, rounds_fit, step_fits, step_source}
use Rattle.sync_eval.proofs.statement.Statements.all_rounds.Given as goal

abbrev pub invariant-loop-round : goal.invariant-loop-round
invariant-loop-round g l = (scope : Scope) → IsTrue (rounds_fit l.fn.condition l.fn.step (step_fits l.fn.body) scope)
    → all_rounds l.self.depth (run l.self.depth) scope l.fn.place (source_or_none l.fn.condition) (plain_or_none l.fn.step) (step_source l.fn.body) l.fn.state
    ≡ rounds l.self.depth (run l.self.depth) (l._round-end - l._round) scope l.fn.place (source_or_none l.fn.condition) (plain_or_none l.fn.step) (step_source l.fn.body) l.state
