-- The turns of a device at the looks of sessions.
use Rattle.std.specs.Prelude.{◌≡◌, ◌⊎◌, ◌≤◌, ℕ, List, [], ◌∷◌}
use Rattle.sg_history.specs.declared.entries.Entry.{Entry}
use Rattle.sg_history.specs.Device.{DeviceTurn}
use Rattle.session_run.specs.Answered.{look_fronts}
use Rattle.session_threads.specs.Played.{Leaves}

-- each turn takes a feed of this history
abbrev pub AreOver : List Entry → List DeviceTurn → Type 0
AreOver history [] = Unit {0}
AreOver history (turn ∷ earlier) = (turn.history ≡ history) × AreOver history earlier

-- the number is one of these
abbrev pub IsOneOfThese : List ℕ → ℕ → Type 0
IsOneOfThese [] n = ⊥
IsOneOfThese (first ∷ others) n = (first ≡ n) ⊎ IsOneOfThese others n

-- one of the sessions looked at this front
abbrev pub IsLookedAt : List Leaves → ℕ → Type 0
IsLookedAt [] front = ⊥
IsLookedAt (one ∷ left) front = IsOneOfThese (look_fronts one.ended.looks) front ⊎ IsLookedAt left front

abbrev pub AreLookedAt : List Leaves → List DeviceTurn → Type 0
AreLookedAt left [] = Unit {0}
AreLookedAt left (turn ∷ earlier) = IsLookedAt left turn.front × AreLookedAt left earlier

-- the last turn is the first of the list, and their fronts don't fall
abbrev pub AreRising : List DeviceTurn → Type 0
AreRising [] = Unit {0}
AreRising (last ∷ []) = Unit {0}
AreRising (last ∷ before ∷ earlier) = (before.front ≤ last.front) × AreRising (before ∷ earlier)

-- a device takes feeds of this history at looks of these sessions, at fronts that don't fall; the last turn is the first of the list
pub record AreAtLooks (history : List Entry) (left : List Leaves) (turns : List DeviceTurn) : Type 0 where
  pub over : AreOver history turns
  pub looked : AreLookedAt left turns
  pub rising : AreRising turns
