-- The turns of a device at the looks of a replay's sessions.
use Rattle.std.specs.Prelude.{◌≡◌, ◌⊎◌, ℕ, List, [], ◌∷◌, ◌++◌, map, reverse}
use Rattle.sg_history.specs.declared.entries.Entry.{Entry}
use Rattle.sg_history.specs.Device.{DeviceTurn}
use Rattle.session_run.specs.Answered.{look_fronts}
use Rattle.transcripts.specs.Transcript.{Run}

-- the fronts of the looks of sessions, session after session
abbrev pub fronts_of : List Run → List ℕ
fronts_of [] = []
fronts_of (run ∷ runs) = look_fronts run.ended.looks ++ fronts_of runs

-- each turn takes a feed of this history
abbrev pub AreOver : List Entry → List DeviceTurn → Type 0
AreOver history [] = Unit {0}
AreOver history (turn ∷ earlier) = (turn.history ≡ history) × AreOver history earlier

-- the first numbers stand among the others, in the same order
abbrev pub StandAmong : List ℕ → List ℕ → Type 0
StandAmong [] others = Unit {0}
StandAmong (n ∷ ns) [] = ⊥
StandAmong (n ∷ ns) (other ∷ others) = ((n ≡ other) × StandAmong ns others) ⊎ StandAmong (n ∷ ns) others

-- a device takes feeds of this history at the looks of sessions, in their order; the last turn is the first of the list
pub record AreAtLooks (history : List Entry) (runs : List Run) (turns : List DeviceTurn) : Type 0 where
  pub over : AreOver history turns
  pub fronts : StandAmong (map (λ (turn : DeviceTurn). turn.front) turns) (reverse (fronts_of runs))
