-- writes that are found by their revision, without their sequences
use Rattle.std.proofs.Common.{◌≡◌, ℕ, refl, Bool, true, false, if◌then◌else◌, Option, Some, None}
use Rattle.sg_names.specs.declared.rev_id.RevId.{RevId}
use Rattle.sg_names.specs.RevId.{same_rev}
use Rattle.sg_history.specs.declared.entries.Write.{Write}
use Rattle.sg_history.specs.Current.{Sequenced, with_rev_or, write_alone, rev_or}

-- the sequences do not matter to which write is found
pub alone_next : (o : Option Write) (seq : ℕ) (rev : RevId) (other : Option Sequenced) → write_alone (with_rev_or o seq rev other) ≡ rev_or o rev (write_alone other)
alone_next None seq rev other = refl
alone_next (Some w) seq rev other = go (same_rev w.rev rev)
  where
    go : (b : Bool) → write_alone (if b then Some (record { seq = seq; write = w }) else other) ≡ (if b then Some w else write_alone other)
    go true = refl
    go false = refl
