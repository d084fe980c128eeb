use Rattle.std.proofs.Common.{◌≡◌, length, IsTrue}
use Rattle.sync_meaning.specs.declared.scope.Scope.{Scope}
use Rattle.sync_meaning.specs.Statements.{declare_all}
use Rattle.sync_code.specs.Steps.{names_fit, name_sources}
use Rattle.sync_eval.proofs.simple.Parts.declare_all.Given as goal

abbrev pub invariant-loop-left : goal.invariant-loop-left
invariant-loop-left l = (first : Scope) → IsTrue (names_fit l.fn.declares l.fn.names first)
    → (scope : Scope) × IsTrue (names_fit l.fn.declares l.left scope)
    × (declare_all l.self.depth l.fn.declares scope (name_sources l.left) l.state ≡ declare_all l.self.depth l.fn.declares first (name_sources l.fn.names) l.fn.state)

abbrev pub decreases-loop-left : goal.decreases-loop-left
decreases-loop-left l = length l.left
