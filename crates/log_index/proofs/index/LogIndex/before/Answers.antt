use Rattle.std.proofs.Common.{◌∙◌, ap, List}
use Rattle.log_index.specs.declared.entry_places.EntryPlaces.{EntryPlaces}
use Rattle.log_index.specs.Places.{before_at}
use Rattle.log_index.specs.Representation.{behind_by, kept_at}
use Rattle.log_index.proofs.EntryPlaces.{before_gives}
use Rattle.log_index.proofs.index.LogIndex.before.Goals as goal

pub returns : goal.returns
returns c =
    c.behind.ensures
    ∙ ap (λ (p : EntryPlaces). behind_by (kept_at c.as_slice-places.result.now p.before) p.before) c.of_entry.ensures
    ∙ ap (λ (l : List EntryPlaces). behind_by (kept_at l (kept_at l c.args.seq).before) (kept_at l c.args.seq).before) c.as_slice-places.ensures.value
    ∙ before_gives _ _ c.args.seq c.self.invariant.1
    ∙ ap (λ es. before_at es c.args.seq) c.self.view_is
