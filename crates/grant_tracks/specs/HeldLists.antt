-- What one user or role has or had, as a list of things, each with its track.
use Rattle.std.specs.Prelude.{◌≡◌, ℕ, ◌+◌, Bool, false, List, [], ◌∷◌, Option, Some, None, option_map, if◌then◌else◌}
use Rattle.grant_tracks.specs.declared.things.What.{What}
use Rattle.grant_tracks.specs.declared.held.Held.{Held}
use Rattle.grant_tracks.specs.What.{same_what}
use Rattle.grant_tracks.specs.Tracks.{IsTrack, held_at}

-- the place of something among what is held
abbrev pub place_of : List Held → What → Option ℕ
place_of [] w = None
place_of (h ∷ hs) w = if same_what h.what w then Some 0 else option_map (λ n. n + 1) (place_of hs w)

-- how many sources give it
abbrev pub count_in : List Held → What → ℕ
count_in [] w = 0
count_in (h ∷ hs) w = if same_what h.what w then h.track.count else count_in hs w

-- whether it is held at a place
abbrev pub held_in : List Held → What → ℕ → Bool
held_in [] w k = false
held_in (h ∷ hs) w k = if same_what h.what w then held_at h.track k else held_in hs w k

-- the tracks say nothing of later places, and each thing is there once
abbrev pub AreUpTo : List Held → ℕ → Type 0
AreUpTo [] n = Unit {0}
AreUpTo (h ∷ hs) n = IsTrack h.track n × (place_of hs h.what ≡ None) × AreUpTo hs n
