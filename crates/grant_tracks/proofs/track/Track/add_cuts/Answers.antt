use Rattle.std.proofs.Common.{ap, sym, List}
use Rattle.std.specs.List.{list_any}
use Rattle.grant_tracks.specs.declared.track.Span.{Span}
use Rattle.grant_tracks.specs.Tracks.{has_place}
use Rattle.grant_tracks.proofs.Cutting.{covers_same, track_covers}
use Rattle.grant_tracks.proofs.Tracked.{on_ok}
use Rattle.grant_tracks.proofs.track.Track.add_cuts.Goals as goal

pub returns : goal.returns
returns c = on_ok c.add_ends.result _ _ (λ is.
    track_covers c.args.self.now c.args.cuts.now.items c.add_spans.new.cuts.items c.add_ends.new.cuts.items
    (covers_same _ _ _ _ c.in_ok-add_spans.ensures (λ k. ap (λ (l : List Span). list_any (has_place k) l) (sym c.as_slice.ensures.value))) is) c.add_ends.ensures
