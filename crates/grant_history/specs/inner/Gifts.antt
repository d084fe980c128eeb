-- When roles give channels, by the names of these.
use Rattle.std.specs.Prelude.{ℕ, Bool, false, ◌&&◌, List, String, Option, None, Some}
use Rattle.std.specs.Borrow.{Bor}
use Rattle.std.specs.BTreeMap.{BTreeMap, get_by_text}
use Rattle.std.specs.Global.{Global}
use Rattle.grant_history.specs.declared.gifts.GiftList.{GiftList}
use Rattle.grant_history.specs.declared.givers.Giver.{Giver}
use Rattle.grant_tracks.specs.declared.held.Held.{Held}
use Rattle.grant_tracks.specs.declared.track.Track.{Track}
use Rattle.grant_tracks.specs.Reads.{has_by, is_channel}
use Rattle.grant_tracks.specs.Tracks.{held_at}
use Rattle.grant_tracks.specs.Spells.{spells_have}
use Rattle.grant_tracks.specs.Ways.{track_has}

abbrev pub Gifts : Type 0
Gifts = BTreeMap (String Global) GiftList

-- whether one of the spells that are kept of a channel, if any are, has a place
abbrev pub list_has : Option GiftList → ℕ → Bool
list_has None k = false
list_has (Some kept) k = spells_have kept.list.items k

-- whether a role gives the channel at a place
abbrev pub gifts_have : Gifts → List ℕ → ℕ → Bool
gifts_have gifts x k = list_has (get_by_text gifts x) k

-- whether a role, given when it exists, gives the channel at a place by one thing that it has or had
abbrev pub held_gives : Giver → Option (Bor Track) → List ℕ → ℕ → Held → Bool
held_gives g exists x k h = is_channel h.what x && (held_at g.track.now k && (track_has exists k && held_at h.track k))

-- whether a user that has or had these things has a channel at a place, by what its roles give
abbrev pub has_at_by : Gifts → List Held → List ℕ → ℕ → Bool
has_at_by gifts list x k = has_by list x k (gifts_have gifts x k)
