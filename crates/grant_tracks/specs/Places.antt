-- Where things stand in a list, looked up by their names.
use Rattle.std.specs.Prelude.{◌≡◌, ℕ, List, [], ◌∷◌, Option, None}
use Rattle.std.specs.BTreeMap.{get_by_text}
use Rattle.grant_tracks.specs.declared.things.What.{What}
use Rattle.grant_tracks.specs.declared.things.What.TheVariants as what
use Rattle.grant_tracks.specs.declared.held.Held.{Held}
use Rattle.grant_tracks.specs.declared.places.Places.{Places}
use Rattle.grant_tracks.specs.HeldLists.{place_of}

-- the place that is kept of something
abbrev pub found : Places → What → Option ℕ
found places what.Exists = places.exists
found places (what.Channel c) = get_by_text places.channels c
found places (what.Role r) = get_by_text places.roles r

-- the place that is kept of each thing is where it stands
abbrev pub ArePlaces : Places → List Held → Type 0
ArePlaces places list = (w : What) → found places w ≡ place_of list w

-- each thing stands once
abbrev pub StandOnce : List Held → Type 0
StandOnce [] = Unit {0}
StandOnce (h ∷ hs) = (place_of hs h.what ≡ None) × StandOnce hs
