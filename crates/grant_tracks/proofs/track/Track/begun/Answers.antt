use Rattle.grant_tracks.proofs.Tracked.{fresh_up_to}
use Rattle.grant_tracks.proofs.track.Track.begun.Goals as goal

pub give-requires : goal.give-requires
give-requires c = fresh_up_to c.new-track.result c.args.at c.new-track.ensures
