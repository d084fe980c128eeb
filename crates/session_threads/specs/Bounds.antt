-- Where there is no room: a history that has many entries, and checkpoints that are as many as there may be. And the numbers of
-- checkpoints that answers name.
use Rattle.std.specs.Prelude.{◌≤◌, ◌+◌, ◌⊎◌, ℕ, List, [], ◌∷◌, length, Option, Some}
use Rattle.sg_history.specs.declared.entries.Entry.{Entry}
use Rattle.sg_history.specs.Board.{SideEntry}
use Rattle.checkpoint_store.specs.declared.answers.SetAnswer.TheVariants as set
use Rattle.doc_board.specs.declared.outcome.Outcome.{Outcome}
use Rattle.doc_board.specs.declared.outcome.Outcome.TheVariants as outcome
use Rattle.session_core.specs.declared.act.Want.{Want}
use Rattle.session_core.specs.declared.act.Want.TheVariants as want
use Rattle.session_core.specs.declared.event.Event.{Event}
use Rattle.session_core.specs.declared.event.Event.TheVariants as event
use Rattle.session_core.specs.Steps.{SessionStep, wanted_after}
use Rattle.session_run.specs.Numbers.{named_of, number_in, AreNamedRising, AreNamedWithin}
use Rattle.session_threads.specs.declared.played.LineOutcome.{LineOutcome}
use Rattle.session_threads.specs.declared.played.LineOutcome.TheVariants.{Plain}

-- too many places are taken only where the history has at least 10,000 entries past the front, and the log is full only where it has at
-- least 102
abbrev pub IsOutcomeBounded : List Entry → Outcome → Type 0
IsOutcomeBounded h (outcome.Full503 at places) = at + 10000 ≤ length h
IsOutcomeBounded h (outcome.LogFull509 at entries bytes) = 102 ≤ length h
IsOutcomeBounded h other = Unit {0}

abbrev pub IsBoundedEvent : List Entry → Event → Type 0
IsBoundedEvent h (event.Judged answer) = IsOutcomeBounded h answer
IsBoundedEvent h other = Unit {0}

-- the same of the outcomes of a script's lines, and of what was answered to a session
abbrev pub AreBoundedLines : List Entry → List LineOutcome → Type 0
AreBoundedLines h [] = Unit {0}
AreBoundedLines h (Plain answer ∷ outcomes) = IsOutcomeBounded h answer × AreBoundedLines h outcomes

abbrev pub AreBoundedSteps : List Entry → List SessionStep → Type 0
AreBoundedSteps h [] = Unit {0}
AreBoundedSteps h (s ∷ steps) = IsBoundedEvent h s.event × AreBoundedSteps h steps

-- no room was found for the checkpoint of a user's client only where 100,000 are kept, or where it has the last number
abbrev pub IsFullEvent : List SideEntry → List ℕ → Event → Option Want → Type 0
IsFullEvent side user (event.Set set.Full503) (Some (want.SetCheckpoint client rev body)) =
    (100000 ≤ length side) ⊎ (18446744073709551615 ≤ number_in side user client)
IsFullEvent side user other wanted = Unit {0}

-- the same of all that was answered to a session
abbrev pub AreFullSteps : List SideEntry → List ℕ → List SessionStep → Type 0
AreFullSteps side user [] = Unit {0}
AreFullSteps side user (s ∷ earlier) = IsFullEvent side user s.event (wanted_after earlier) × AreFullSteps side user earlier

-- what is answered of checkpoints in the steps of a user's session, the last step first, by what is kept at the end: the numbers that
-- are named don't fall for any client, and none is above the one that is kept; and no room was found only where there is none
pub record AreCheckpointsWithin (side : List SideEntry) (user : List ℕ) (steps : List SessionStep) : Type 0 where
  pub rising : AreNamedRising (named_of steps)
  pub within : AreNamedWithin user side (named_of steps)
  pub full : AreFullSteps side user steps
