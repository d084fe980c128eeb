-- The states that documents have from each entry of a log on: where the winner's write stands, and where its effects do.
use Rattle.std.specs.Prelude.{◌≡◌, ◌<◌, ◌+◌, ℕ, nat_eq, List, [], ◌∷◌, ◌++◌, length, Option, Some, None, slice_get, if◌then◌else◌}
use Rattle.std.specs.BTreeMap.{is_at}
use Rattle.std.specs.Map.{lookup}
use Rattle.std.specs.Ordering.{nat_cmp}
use Rattle.sg_history.specs.declared.entries.Entry.{Entry}
use Rattle.sg_history.specs.declared.entries.Mark.{Mark}
use Rattle.sg_history.specs.declared.entries.Write.{Write}
use Rattle.sg_history.specs.History.{SyncEntry, as_sync, past}
use Rattle.log_index.specs.declared.documents.Document.{Document}
use Rattle.log_index.specs.declared.marks.Marked.{Marked}
use Rattle.log_index.specs.Marks.{is_mark, marked_up_to}
use Rattle.log_index.specs.Places.{document_at}
use Rattle.log_views.specs.At.{written}
use Rattle.grant_history.specs.declared.states.NewState.{NewState}
use Rattle.grant_history.specs.declared.states.StateList.{StateList}

-- where the state of a document stands after these entries, the newest first: none where it was never written
abbrev pub state_by : List Entry → Option Document → Option NewState
state_by es None = None
state_by es (Some d) = Some (record { winning = d.winning; marked = marked_up_to es d.winning (length es) })

abbrev pub state_of : List Entry → List ℕ → Option NewState
state_of es doc = state_by es (document_at es doc)

-- that of the document of a write, where there is a write
abbrev pub state_written : List Entry → Option Write → Option NewState
state_written es None = None
state_written es (Some w) = state_of es w.doc

-- a state where this mark has its effects
abbrev pub by_mark : Option NewState → ℕ → ℕ → List NewState
by_mark None sync number = []
by_mark (Some s) sync number = if is_mark s.marked sync number then s ∷ [] else []

-- the states of the documents of which these marks of the last entry, counted from this number on, have the effects
abbrev pub by_marks : List Entry → List Mark → ℕ → List NewState
by_marks es [] number = []
by_marks es (mark ∷ marks) number = by_mark (state_of es mark.doc) (length es) number ++ by_marks es marks (number + 1)

-- those that a replacement, where there is one, gives their effects
abbrev pub states_marked : List Entry → Option SyncEntry → List NewState
states_marked es None = []
states_marked es (Some sync) = by_marks es sync.marks 0

-- the replacement of the sync function that an entry is, if there is one
abbrev pub replaced : Option Entry → Option SyncEntry
replaced None = None
replaced (Some e) = as_sync e

-- the state that the document of the write at a place, counted from 0, has after it: none where no write is there
abbrev pub written_at : List Entry → ℕ → Option NewState
written_at entries i = state_written (past entries (i + 1)) (written (slice_get entries i))

-- the states of the documents to which the replacement at a place, counted from 0, gives their effects, in the order of its marks
abbrev pub marked_at : List Entry → ℕ → List NewState
marked_at entries i = states_marked (past entries (i + 1)) (replaced (slice_get entries i))

-- new states of a log as they are kept: for each entry the sequence of the winner of the document that it writes, or 0; by place,
-- the mark that has the effects of that winner, where one has; and, by place, the states of the documents that are marked there
pub record KeptStates : Type 0 where
  pub winners : List ℕ
  pub marks : List (ℕ × Marked)
  pub lists : List (ℕ × StateList)

abbrev pub winner_in : Option ℕ → Option Marked → Option NewState
winner_in None marked = None
winner_in (Some winning) marked = if nat_eq winning 0 then None else Some (record { winning = winning; marked = marked })

abbrev pub list_of : Option StateList → List NewState
list_of None = []
list_of (Some list) = list.list.items

-- what is kept of the document that the entry at a place, counted from 0, writes
abbrev pub written_in : KeptStates → ℕ → Option NewState
written_in kept i = winner_in (slice_get kept.winners i) (lookup (is_at (nat_cmp i)) kept.marks)

-- what is kept of the documents that the entry at a place, counted from 0, marks
abbrev pub marked_in : KeptStates → ℕ → List NewState
marked_in kept i = list_of (lookup (is_at (nat_cmp i)) kept.lists)

-- what is kept is what the first entries say, so many
pub record AreNewStates (entries : List Entry) (kept : KeptStates) (n : ℕ) : Type 0 where
  pub count : length kept.winners ≡ n
  pub written : (i : ℕ) → i < n → written_in kept i ≡ written_at entries i
  pub marked : (i : ℕ) → i < n → marked_in kept i ≡ marked_at entries i
