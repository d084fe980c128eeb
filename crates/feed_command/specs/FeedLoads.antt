-- the loads of `feed`, which has one file
use Rattle.std.specs.Prelude.{◌≡◌, ℕ, List, [], ◌∷◌, ◌++◌, Option}
use Rattle.sg_outside.specs.Files.{Load}
use Rattle.sg_history.specs.BadLine.{IsBadJournal}
use Rattle.sg_history.specs.History.{History}
use Rattle.sg_history.specs.Journal.{Spells}
use Rattle.sg_history.specs.declared.fault.Why.{Why}
use Rattle.command_line.specs.declared.status.Status.{Status}
use Rattle.command_line.specs.Loads.{EndsLoads}

-- the bytes are the journal of a history
abbrev pub IsGoodJournal : ℕ → List ℕ → Type 0
IsGoodJournal number bytes = (h : History) × Spells bytes h

-- they are not, and this is the first bad line
abbrev pub IsBadJournalAt : ℕ → List ℕ → ℕ → Why → Type 0
IsBadJournalAt number bytes place why = IsBadJournal bytes (record { place = place; why = why })

-- what a run loaded of the journal, and how it ended by it
abbrev pub LoadsJournal : Option (List ℕ → Option (List ℕ)) → List ℕ → List Load → List Load → Status → Type 0
LoadsJournal recorded journal before after s =
    (done : List Load) × (after ≡ before ++ done) × EndsLoads recorded IsGoodJournal IsBadJournalAt 1 (journal ∷ []) done s
