use Rattle.std.proofs.Common.{sym, subst}
use Rattle.log_index.specs.Representation.{HasPlaces}
use Rattle.log_index.proofs.EntryPlaces.{none_kept}
use Rattle.log_index.proofs.index.LogIndex.new.Goals as goal

pub invariant_of-result : goal.invariant_of-result
invariant_of-result c = (subst (λ es. HasPlaces c.new.result es) (sym c.new-3.ensures) c.new.ensures, none_kept _ _ c.new-2.ensures.items c.new-3.ensures)
