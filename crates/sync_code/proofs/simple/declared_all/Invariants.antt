use Rattle.std.proofs.Common.{◌≡◌, IsTrue, take}
use Rattle.sync_meaning.specs.Variables.{all_declared}
use Rattle.sync_code.specs.Steps.{name_sources, names_fit}
use Rattle.sync_code.proofs.simple.declared_all.Given as goal

abbrev pub invariant-loop-name : goal.invariant-loop-name
invariant-loop-name l =
    (name_sources l.made ≡ take l.name-index l.found) × IsTrue (names_fit l.fn.declares l.made l.fn.scope)
    × (l.scope ≡ all_declared l.fn.declares (name_sources l.made) l.fn.scope)
