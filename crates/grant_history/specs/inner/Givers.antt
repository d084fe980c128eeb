-- The roles of a user, each with what is kept of it.
use Rattle.std.specs.Prelude.{ℕ, Bool, ◌&&◌, List, Some}
use Rattle.grant_history.specs.declared.givers.Giver.{Giver}
use Rattle.grant_tracks.specs.Tracks.{held_at}
use Rattle.grant_tracks.specs.Reads.{channel_by}

-- whether a role gives a channel at a place
abbrev pub giver_has : Giver → ℕ → List ℕ → Bool
giver_has g k x = held_at g.track.now k && channel_by (Some g.of.now) k x
