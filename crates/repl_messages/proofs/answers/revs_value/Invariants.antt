use Rattle.std.proofs.Common.{◌≡◌, ◌++◌, map, drop}
use Rattle.serde_json.specs.Data.{string}
use Rattle.serde_json.specs.View.{view}
use Rattle.sg_names.specs.RevId.{rev_text}
use Rattle.repl_messages.proofs.answers.revs_value.Given as goal

abbrev pub invariant-loop-rev : goal.invariant-loop-rev
invariant-loop-rev l = map view l.values.items ++ map (λ r. string (rev_text r)) (drop l.rev-index l.revs) ≡ map (λ r. string (rev_text r)) l.revs
