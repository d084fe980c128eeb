use Rattle.grant_tracks.proofs.Cutting.{ways_cover}
use Rattle.grant_tracks.proofs.Tracked.{on_ok}
use Rattle.grant_tracks.proofs.ways.Ways.add_cuts.Goals as goal

pub returns : goal.returns
returns c = on_ok c.add_gifts.result _ _ (λ gifts.
    ways_cover c.args.cuts.now.items c.add_track.new.cuts.items c.add_track-2.new.cuts.items c.add_track-3.new.cuts.items c.add_gifts.new.cuts.items c.args.self.now
    c.in_ok-add_track.ensures.within c.in_ok-add_track-2.ensures.held c.in_ok-add_track-3.ensures.held gifts) c.add_gifts.ensures
