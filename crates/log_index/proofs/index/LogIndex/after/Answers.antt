use Rattle.std.proofs.Common.{◌∙◌, ap, List}
use Rattle.log_index.specs.declared.entry_places.EntryPlaces.{EntryPlaces}
use Rattle.log_index.specs.Places.{after_at}
use Rattle.log_index.specs.Representation.{behind_by, kept_at}
use Rattle.log_index.proofs.EntryPlaces.{after_gives}
use Rattle.log_index.proofs.index.LogIndex.after.Goals as goal

pub returns : goal.returns
returns c =
    c.behind.ensures
    ∙ ap (λ (l : List EntryPlaces). behind_by (kept_at l c.args.seq) c.args.seq) c.as_slice.ensures.value
    ∙ after_gives _ _ c.args.seq c.self.invariant.1
    ∙ ap (λ es. after_at es c.args.seq) c.self.view_is
