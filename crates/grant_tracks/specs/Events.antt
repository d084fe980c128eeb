-- Spells by where they begin and where they end.
use Rattle.std.specs.Prelude.{ℕ, Bool}
use Rattle.grant_tracks.specs.declared.events.Events.{Events}
use Rattle.grant_tracks.specs.Counts.{open_at}

-- whether a spell has a place
abbrev pub is_open : Events → ℕ → Bool
is_open e k = open_at e.begins.items e.ends.items k
