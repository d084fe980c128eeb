-- When a document is shown, by the periods of the user's channels.
use Rattle.std.specs.Prelude.{◌≡◌, ◌<◌, ◌≤◌, ◌-◌, ℕ, Bool, List, [], ◌∷◌, String, Option, Some, None, if◌then◌else◌}
use Rattle.std.specs.BTreeMap.{BTreeMap, get_by_text}
use Rattle.std.specs.Global.{Global}
use Rattle.std.specs.List.{list_any}
use Rattle.sg_history.specs.View.{every, passes}
use Rattle.grant_history.specs.declared.periods.Period.{Period}
use Rattle.grant_history.specs.Periods.{periods_have}
use Rattle.feed_rows.specs.declared.shown.Switch.{Switch}
use Rattle.feed_rows.specs.declared.shown.Viewer.{Viewer}
use Rattle.feed_rows.specs.declared.by_channels.Kept.{Kept}

-- the channels under which a document is sought: `*` and its own, where the filter lets one of them through
abbrev pub sought : Option (List (List ℕ)) → List (List ℕ) → List (List ℕ)
sought filter channels = if passes filter (every ∷ channels) then every ∷ channels else []

-- whether a document in these channels is shown at a place
abbrev pub is_shown : List Period → Option (List (List ℕ)) → List (List ℕ) → ℕ → Bool
is_shown periods filter channels k = list_any (λ c. periods_have periods c k) (sought filter channels)

-- the last place after one, up to another, at which a test changed, if it did, and its answer from then on
abbrev pub IsLastSwitch : (ℕ → Bool) → ℕ → ℕ → Option Switch → Type 0
IsLastSwitch test from to None = (j : ℕ) → from ≤ j → j ≤ to → test j ≡ test to
IsLastSwitch test from to (Some switch) =
    (from < switch.by) × (switch.by ≤ to) × (switch.is_shown ≡ test to)
    × ((j : ℕ) → switch.by ≤ j → j ≤ to → test j ≡ test to)
    × ¬ (test (switch.by - 1) ≡ test to)

-- of each list of channels that is kept it is right where it changed last, after one place up to another, whether a document in them
-- is shown
abbrev pub AreSwitches : Viewer → ℕ → ℕ → BTreeMap (String Global) Kept → Type 0
AreSwitches viewer start to kept =
    (text : List ℕ) (one : Kept) → get_by_text kept text ≡ Some one
    → IsLastSwitch (is_shown viewer.periods.now viewer.filter.now one.channels.now) start to one.last
