-- boards with the same log and the same that waits
use Rattle.std.proofs.Common.{◌≡◌, ◌∙◌, List, ap}
use Rattle.sg_history.specs.declared.book.Waiting.{Waiting}
use Rattle.sg_history.specs.declared.entries.Entry.{Entry}
use Rattle.doc_board.specs.State.{State}

-- what is said of a log and of what waits is the same where these are
pub same_on : {X : Type 0} (says : List Entry → List Waiting → X) (s t : State) → t.log ≡ s.log → t.pending ≡ s.pending → says t.log t.pending ≡ says s.log s.pending
same_on says s t log pending = ap (λ (es : List Entry). says es t.pending) log ∙ ap (λ (ws : List Waiting). says s.log ws) pending
