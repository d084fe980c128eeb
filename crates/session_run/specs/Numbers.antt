-- The numbers of checkpoints that a session's answers name.
use Rattle.std.specs.Prelude.{◌≡◌, ◌≤◌, ℕ, List, [], ◌∷◌, ◌++◌, Option, Some}
use Rattle.std.specs.Option.{unwrap_or}
use Rattle.sg_history.specs.Board.{SideEntry}
use Rattle.checkpoint_store.specs.declared.answers.Kept0.TheVariants as kept0
use Rattle.checkpoint_store.specs.declared.answers.SetAnswer.TheVariants as set
use Rattle.checkpoint_store.specs.Checkpoints.{checkpoint_text}
use Rattle.checkpoint_store.specs.SideMaps.{side_number}
use Rattle.session_core.specs.declared.act.Want.{Want}
use Rattle.session_core.specs.declared.act.Want.TheVariants as want
use Rattle.session_core.specs.declared.event.Event.{Event}
use Rattle.session_core.specs.declared.event.Event.TheVariants as event
use Rattle.session_core.specs.Steps.{SessionStep, wanted_after}

-- a number that an answer names for a client
pub record ClientNumber : Type 0 where
  pub client : List ℕ
  pub number : ℕ

-- the number that the answer to what was wanted names, if it names one: that of the checkpoint that was had, which is 0 where there is
-- none, the new one of a set, or the one that is kept where another was named
abbrev pub named_by : Option Want → Event → List ClientNumber
named_by (Some (want.GetCheckpoint client)) (event.Got (kept0.Found rev body)) = record { client = client; number = rev } ∷ []
named_by (Some (want.GetCheckpoint client)) (event.Got kept0.Absent404) = record { client = client; number = 0 } ∷ []
named_by (Some (want.SetCheckpoint client rev body)) (event.Set (set.Set number)) = record { client = client; number = number } ∷ []
named_by (Some (want.SetCheckpoint client rev body)) (event.Set (set.Conflict409 current)) = record { client = client; number = current } ∷ []
named_by wanted other = []

-- those of steps, the last step first, and the last number first
abbrev pub named_of : List SessionStep → List ClientNumber
named_of [] = []
named_of (s ∷ earlier) = named_by (wanted_after earlier) s.event ++ named_of earlier

-- the number of a user's client in a side map, 0 where it has none
abbrev pub number_in : List SideEntry → List ℕ → List ℕ → ℕ
number_in side user client = unwrap_or (side_number side (checkpoint_text user client)) 0

-- none of these is above what the side map has for its client
abbrev pub AreNamedWithin : List ℕ → List SideEntry → List ClientNumber → Type 0
AreNamedWithin user side [] = Unit {0}
AreNamedWithin user side (n ∷ earlier) = (n.number ≤ number_in side user n.client) × AreNamedWithin user side earlier

-- none of these of the same client is above this one
abbrev pub AreNamedBelow : ClientNumber → List ClientNumber → Type 0
AreNamedBelow n [] = Unit {0}
AreNamedBelow n (earlier ∷ others) = (earlier.client ≡ n.client → earlier.number ≤ n.number) × AreNamedBelow n others

-- none is below an earlier one of its client, the last of which is the first of the list
abbrev pub AreNamedRising : List ClientNumber → Type 0
AreNamedRising [] = Unit {0}
AreNamedRising (n ∷ earlier) = AreNamedBelow n earlier × AreNamedRising earlier
