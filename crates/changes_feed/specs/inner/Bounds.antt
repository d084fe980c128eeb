-- Where the periods of channels begin and end, and where a user has the same channels. Only proofs need it.
use Rattle.std.specs.Prelude.{◌≡◌, ◌≤◌, ℕ, Bool, false, ◌&&◌, ◌||◌, nat_le, List, Option, Some, None}
use Rattle.std.specs.Str.{bytes_eq}
use Rattle.sg_history.specs.declared.entries.Entry.{Entry}
use Rattle.grant_history.specs.declared.periods.Period.{Period}
use Rattle.changes_feed.specs.Switches.{has_at}

-- whether a place is one from one to another
abbrev pub is_within : ℕ → ℕ → ℕ → Bool
is_within start front place = nat_le start place && nat_le place front

-- whether an end is at a place from one to another
abbrev pub ends_within : ℕ → ℕ → Option ℕ → Bool
ends_within start front None = false
ends_within start front (Some place) = is_within start front place

-- whether a period begins or ends at a place from one to another
abbrev pub is_bound : ℕ → ℕ → Period → Bool
is_bound start front p = is_within start front p.from || ends_within start front p.to

-- whether it does, and is of a channel
abbrev pub is_bound_of : ℕ → ℕ → List ℕ → Period → Bool
is_bound_of start front c p = bytes_eq p.channel c && is_bound start front p

-- a user has the same channels from one place to another
abbrev pub IsSteady : List Entry → List ℕ → ℕ → ℕ → Type 0
IsSteady entries user from last =
    (k : ℕ) → from ≤ k → k ≤ last → (channel : List ℕ) → has_at entries user channel k ≡ has_at entries user channel last
