-- The channels that a user gained or lost while a log went from one place to another.
use Rattle.std.specs.Prelude.{◌≡◌, ◌↔◌, ◌<◌, ◌≤◌, ◌-◌, ℕ, Bool, IsTrue, List, max}
use Rattle.sg_names.specs.declared.key.Key.{Key}
use Rattle.sg_history.specs.declared.entries.Entry.{Entry}
use Rattle.sg_history.specs.History.{among, past}
use Rattle.sg_history.specs.Principals.{has_channel}
use Rattle.log_views.specs.Sorted.{AreSorted}

-- the first place of the segment of a since key: that of the key, or the first of the log
abbrev pub first_of : Key → ℕ
first_of since = max since.by 1

-- whether a user has a channel after the entries up to a place
abbrev pub has_at : List Entry → List ℕ → List ℕ → ℕ → Bool
has_at entries user channel k = has_channel (past entries k) user channel

-- the user gained or lost a channel at a place
abbrev pub Turns : List Entry → List ℕ → List ℕ → ℕ → Type 0
Turns entries user channel k = ¬ (has_at entries user channel k ≡ has_at entries user channel (k - 1))

-- the user gained or lost the channel in a segment, which has more before it
pub record IsSwitched (entries : List Entry) (user : List ℕ) (start front : ℕ) (channel : List ℕ) : Type 0 where
  pub more : 1 < start
  pub place : ℕ
  pub first : start ≤ place
  pub last : place ≤ front
  pub turns : Turns entries user channel place

-- these are the channels that the user gained or lost in the segment, by rising bytes, each once; none where the segment begins
-- with the log
pub record AreSwitches (channels : List (List ℕ)) (entries : List Entry) (user : List ℕ) (start front : ℕ) : Type 0 where
  pub in_order : AreSorted channels
  pub are : (channel : List ℕ) → IsTrue (among channels channel) ↔ IsSwitched entries user start front channel
