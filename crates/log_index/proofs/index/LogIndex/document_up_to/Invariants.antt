use Rattle.std.proofs.Common.{◌≡◌}
use Rattle.log_index.specs.Representation.{last_kept}
use Rattle.log_index.proofs.GoingBack.{Found}
use Rattle.log_index.proofs.index.LogIndex.document_up_to.Given as goal

abbrev pub invariant-loop-last : goal.invariant-loop-last
invariant-loop-last l = (Found l.self l.doc l.place l.found) × (l.last ≡ last_kept l.found)

abbrev pub decreases-loop-last : goal.decreases-loop-last
decreases-loop-last l = l.last
