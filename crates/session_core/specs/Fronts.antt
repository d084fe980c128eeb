-- The looks of a session, and the fronts that it saw.
use Rattle.std.specs.Prelude.{◌≤◌, ℕ, List, [], ◌∷◌, ◌++◌, map}
use Rattle.repl_messages.specs.Looks.{front_of}
use Rattle.doc_board.specs.declared.outcome.Outcome.{Outcome}
use Rattle.doc_board.specs.declared.outcome.Outcome.TheVariants as outcome
use Rattle.session_core.specs.declared.event.Event.{Event}
use Rattle.session_core.specs.declared.event.Event.TheVariants as event
use Rattle.session_core.specs.declared.look.Look.{Look}
use Rattle.session_core.specs.declared.look.Purpose.TheVariants as purposes
use Rattle.session_core.specs.Steps.{SessionStep}

-- the front by which a revision was judged; none where no board was read for its outcome, or memory ran out
abbrev pub judged_at : Outcome → List ℕ
judged_at (outcome.Bad400 field) = []
judged_at (outcome.TooLarge413 bytes) = []
judged_at (outcome.UserGone401 at) = at ∷ []
judged_at (outcome.Known at) = at ∷ []
judged_at (outcome.BadHistory400 at) = at ∷ []
judged_at (outcome.Conflict409 at leaf) = at ∷ []
judged_at (outcome.Denied403 at rule) = at ∷ []
judged_at (outcome.Stored sequence at) = at ∷ []
judged_at (outcome.Full503 at places) = at ∷ []
judged_at (outcome.LogFull509 at entries bytes) = at ∷ []
judged_at outcome.Memory507 = []

-- the look by which an event answers, if it does by one; an answer on checkpoints is none
abbrev pub look_of : Event → List Look
look_of (event.Whole message) = []
look_of (event.Idle front) = []
look_of (event.Fed answer) = record { front = front_of answer; purpose = purposes.Feed } ∷ []
look_of (event.Bodies b) = record { front = b.front; purpose = purposes.Bodies } ∷ []
look_of (event.Asked answer) = record { front = answer.front; purpose = purposes.Ask } ∷ []
look_of (event.Judged outcome) = map (λ front. record { front = front; purpose = purposes.Push }) (judged_at outcome)
look_of (event.Got kept) = []
look_of (event.Set answer) = []

-- the front that an event has: that of its look, or the length of the history that was loaded at an idle moment
abbrev pub front_by : Event → List ℕ
front_by (event.Whole message) = []
front_by (event.Idle front) = front ∷ []
front_by (event.Fed answer) = front_of answer ∷ []
front_by (event.Bodies b) = b.front ∷ []
front_by (event.Asked answer) = answer.front ∷ []
front_by (event.Judged outcome) = judged_at outcome
front_by (event.Got kept) = []
front_by (event.Set answer) = []

-- the sequence at which a revision was stored, if it was
abbrev pub stored_as : Outcome → List ℕ
stored_as (outcome.Stored sequence at) = sequence ∷ []
stored_as _ = []

abbrev pub stored_by : Event → List ℕ
stored_by (event.Judged outcome) = stored_as outcome
stored_by _ = []

-- the looks, the fronts and the sequences of stored revisions of steps, in order; the last step is the first of the list
abbrev pub looks_of : List SessionStep → List Look
looks_of [] = []
looks_of (s ∷ earlier) = looks_of earlier ++ look_of s.event

abbrev pub fronts_of : List SessionStep → List ℕ
fronts_of [] = []
fronts_of (s ∷ earlier) = fronts_of earlier ++ front_by s.event

abbrev pub stored_of : List SessionStep → List ℕ
stored_of [] = []
stored_of (s ∷ earlier) = stored_of earlier ++ stored_by s.event

-- fronts that don't fall, between these two
abbrev pub RiseBetween : ℕ → List ℕ → ℕ → Type 0
RiseBetween low [] high = low ≤ high
RiseBetween low (front ∷ fronts) high = (low ≤ front) × RiseBetween front fronts high
