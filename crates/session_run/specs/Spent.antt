-- How many of its looks a session has spent, and how many draws of sequences they cost.
use Rattle.std.specs.Prelude.{◌≡◌, ◌≤◌, ℕ, ◌+◌, ◌*◌, Bool, true, false, List, [], ◌∷◌, length, Option, None, Some}
use Rattle.session_core.specs.declared.act.Want.{Want}
use Rattle.session_core.specs.declared.act.Want.TheVariants as want
use Rattle.session_core.specs.declared.event.Event.{Event}
use Rattle.session_core.specs.declared.event.Event.TheVariants as event
use Rattle.session_core.specs.Fronts.{look_of}
use Rattle.session_core.specs.Steps.{SessionStep, wanted_after}
use Rattle.write_path.specs.Origins.{Origin}

-- how many looks a session takes at most; a proposal counts as one, whether or not a board was read for it
abbrev pub most_looks : ℕ
most_looks = 1000000

-- how many of them an event is the answer of
abbrev pub spent_by : Event → ℕ
spent_by (event.Judged answer) = 1
spent_by other = length (look_of other)

-- how many of them are spent for what is wanted: none for what is had of the checkpoints
abbrev pub looks_for : Want → ℕ
looks_for (want.GetCheckpoint client) = 0
looks_for (want.SetCheckpoint client rev body) = 0
looks_for other = 1

-- by steps
abbrev pub spent_of : List SessionStep → ℕ
spent_of [] = 0
spent_of (s ∷ earlier) = spent_of earlier + spent_by s.event

-- all are spent, and one more is wanted after these steps, the last of which is the first of the list
abbrev pub NeedsMore : ℕ → List SessionStep → Type 0
NeedsMore spent steps = (spent ≡ most_looks) × (wanted : Want) × (wanted_after steps ≡ Some wanted) × (looks_for wanted ≡ 1)

-- nothing is wanted, or one of these, and all are spent
abbrev pub IsMet : Bool → Option Want → ℕ → Type 0
IsMet true want spent = want ≡ None
IsMet false want spent = (wanted : Want) × (want ≡ Some wanted) × (spent ≡ most_looks) × (looks_for wanted ≡ 1)

-- ---- draws

-- so many draws are left that there are two for each look that is left
abbrev pub CanLook : ℕ → ℕ → Type 0
CanLook left spent = (spent ≤ most_looks) × (2 * most_looks ≤ left + 2 * spent)

-- at most two draws were made for each of so many looks
pub record SpendsFor (looks : ℕ) (origin_before origin_after : Origin) (left_before left_after : ℕ) : Type 0 where
  pub origin : origin_after ≡ origin_before
  pub least : left_after ≤ left_before
  pub most : left_before ≤ left_after + 2 * looks

-- at most two draws were made for each look that was spent
pub record Draws (origin_before origin_after : Origin) (left_before left_after spent_before spent_after : ℕ) : Type 0 where
  pub origin : origin_after ≡ origin_before
  pub least : left_after ≤ left_before
  pub most : left_before + 2 * spent_before ≤ left_after + 2 * spent_after
  pub few : spent_after ≤ most_looks
