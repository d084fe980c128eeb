-- What a replay prints of the sessions that ran.
use Rattle.std.specs.Prelude.{ℕ, List, [], ◌∷◌}
use Rattle.doc_board.specs.declared.outcome.Outcome.{Outcome}
use Rattle.session_run.specs.declared.ended.Ended.{Ended}
use Rattle.session_threads.specs.declared.played.LineOutcome.{LineOutcome}
use Rattle.session_threads.specs.declared.played.LineOutcome.TheVariants.{Plain}
use Rattle.transcripts.specs.Transcript.{Run}

-- what a line came to
abbrev pub outcome_of : LineOutcome → Outcome
outcome_of (Plain answer) = answer

-- each session with whose it was, as far as there are both
module _ {E : Type 0} (ended_of : E → Ended) (sent_of : E → List (List ℕ)) where
  abbrev pub runs_of : List (List ℕ) → List E → List Run
  runs_of [] es = []
  runs_of (user ∷ users) [] = []
  runs_of (user ∷ users) (e ∷ es) = record { user = user; ended = ended_of e; sent = sent_of e } ∷ runs_of users es
