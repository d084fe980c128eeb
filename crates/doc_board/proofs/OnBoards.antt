-- what a board's book says, and what its entries say
use Rattle.std.proofs.Common.{◌≡◌, ap, List, length, reverse}
use Rattle.std.proofs.Math.Seq.{take-length}
use Rattle.sg_history.specs.declared.entries.Entry.{Entry}
use Rattle.sg_history.specs.History.{past}

-- all entries of a history, the newest first
pub whole : {X : Type 0} (says : List Entry → X) (h : List Entry) → says (past h (length h)) ≡ says (reverse h)
whole says h = ap (λ (es : List Entry). says (reverse es)) (take-length h)
