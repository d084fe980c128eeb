use Rattle.std.proofs.Common.{◌≡◌, ◌∷◌, ◌++◌, drop, string_bytes}
use Rattle.std.specs.List.{flat_map}
use Rattle.sg_names.specs.RevId.{rev_text}
use Rattle.repl_messages.proofs.texts.history_string.Given as goal

abbrev pub invariant-loop-rev : goal.invariant-loop-rev
invariant-loop-rev l = string_bytes l.text ++ flat_map (λ r. 44 ∷ rev_text r) (drop l.rev-index l.others) ≡ rev_text l.fn.first ++ flat_map (λ r. 44 ∷ rev_text r) l.others
