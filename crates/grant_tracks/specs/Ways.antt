-- The ways in which a user has one channel, by what is kept of it: by itself and by its roles.
use Rattle.std.specs.Prelude.{ℕ, Bool, true, false, ◌&&◌, ◌||◌, Option, None, Some}
use Rattle.std.specs.Borrow.{Bor}
use Rattle.grant_tracks.specs.declared.events.Events.{Events}
use Rattle.grant_tracks.specs.declared.track.Track.{Track}
use Rattle.grant_tracks.specs.declared.ways.Ways.{Ways}
use Rattle.grant_tracks.specs.Events.{is_open}
use Rattle.grant_tracks.specs.Tracks.{held_at}

-- whether what has a track, where it ever was held, is held at a place
abbrev pub track_has : Option (Bor Track) → ℕ → Bool
track_has None k = false
track_has (Some t) k = held_at t.now k

-- the same of what is always held where no track is given
abbrev pub is_within : Option (Bor Track) → ℕ → Bool
is_within None k = true
is_within (Some t) k = held_at t.now k

-- whether a role gives the channel at a place, where any ever did
abbrev pub gifts_open : Option (Bor Events) → ℕ → Bool
gifts_open None k = false
gifts_open (Some e) k = is_open e.now k

-- whether the user has the channel at a place
abbrev pub ways_have : Ways → ℕ → Bool
ways_have w k = is_within w.within k && (track_has w.own.exists k && (gifts_open w.gifts k || (track_has w.own.channel k || (w.is_everyone || false))))
