use Rattle.std.proofs.Common.{◌≡◌, IsTrue, take}
use Rattle.sync_meaning.specs.Variables.{behind_all}
use Rattle.sync_code.specs.Steps.{step_sources, steps_fit}
use Rattle.sync_code.proofs.statement.+compile.Given as goal

abbrev pub invariant-steps_of-loop-statement : goal.invariant-steps_of-loop-statement
invariant-steps_of-loop-statement l =
    (step_sources l.made ≡ take l.statement-index l.statements) × IsTrue (steps_fit l.made l.fn.scope)
    × (l.scope ≡ behind_all (step_sources l.made) l.fn.scope)
