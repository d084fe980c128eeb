use Rattle.std.proofs.Common.{IsTrue, IsUtf8, take}
use Rattle.std.specs.List.{All}
use Rattle.sg_names.specs.Grammar.{is_name}
use Rattle.session_threads.proofs.opening.pass_names.Given as goal

abbrev pub invariant-loop-name : goal.invariant-loop-name
invariant-loop-name l = All (λ name. IsTrue (is_name name) × IsUtf8 name) (take l.name-index l.names)
