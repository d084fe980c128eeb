-- What a second try of a proposal answers, and what it leaves.
use Rattle.std.specs.Prelude.{◌≡◌, ◌≤◌, ◌<◌, ◌⊎◌, ℕ, Bool, List, length, Option, Some}
use Rattle.sg_history.specs.declared.entries.Entry.{Entry}
use Rattle.sg_history.specs.declared.entries.Entry.TheVariants as kinds
use Rattle.sg_history.specs.declared.number.Number.{Number}
use Rattle.sg_history.specs.declared.room.RoomFor.{RoomFor}
use Rattle.sg_history.specs.Journal.{IsEntry}
use Rattle.repl_messages.specs.declared.revision.Revision.{Revision}
use Rattle.rev_tree.specs.Extension.{extends_tree}
use Rattle.sync_syntax.specs.declared.tree.Program.{Program}
use Rattle.doc_board.specs.declared.outcome.Outcome.{Outcome}
use Rattle.doc_board.specs.declared.outcome.Outcome.TheVariants as outcome
use Rattle.doc_board.specs.declared.room.Room.{Room}
use Rattle.doc_board.specs.Boards.{board_of}
use Rattle.doc_board.specs.Candidates.{ExtendsTree}
use Rattle.doc_board.specs.Lawful.{AreEntries}
use Rattle.doc_board.specs.Outcomes.{IsAccepted, IsJudged, IsOutcome, IsWriteOf}
use Rattle.doc_board.specs.Recorded.{HasDocument}
use Rattle.sg_history.specs.Rooms.{without_room}
use Rattle.doc_board.specs.State.{State, book_on, tree_on, last_on}
use Rattle.doc_board.specs.Steps.{history_on, stored_at, with_entry}
use Rattle.board_steps.specs.declared.retry.Ready.{Ready}
use Rattle.board_steps.specs.declared.retry.Retried.{Retried}
use Rattle.board_steps.specs.declared.retry.Retried.TheVariants as retried
use Rattle.board_steps.specs.After.{IsAsBefore}

-- a write that may be stored at the board as it stands, at a number above its document's last write
pub record IsHeldReady (s : State) (c : Ready) : Type 0 where
  pub is_entry : IsEntry (kinds.Write c.entry)
  pub document : HasDocument c.entry.body
  pub at : c.entry.at ≡ length s.log
  pub base : c.base ≡ last_on s c.entry.doc
  pub extends : ExtendsTree (tree_on s c.entry.doc) c.entry c.tree
  pub entries : AreEntries (book_on s)

-- the room is that of the write's document, for its body
pub record FitsReady (room : RoomFor) (c : Ready) : Type 0 where
  pub doc : room.doc ≡ Some c.entry.doc
  pub bytes : length c.entry.body ≤ room.bytes

-- the write of the revision, made at the board as it stands
pub record IsMade (s : State) (program : Program) (by : Option (List ℕ)) (r : Revision) (c : Ready) : Type 0 where
  pub is_write : IsWriteOf program by r (board_of s) c.entry
  pub held : IsHeldReady s c

-- besides, the board and the program judge the revision so
pub record IsReady (s : State) (program : Program) (strict : Bool) (by : Option (List ℕ)) (r : Revision) (c : Ready) : Type 0 where
  pub judged : IsJudged strict by r (board_of s) extends_tree c.entry.at
  pub accepted : IsAccepted program by r (board_of s)
  pub made : IsMade s program by r c

-- an outcome at which nothing is stored, and no room was refused
abbrev pub IsTurnedDown : Outcome → Type 0
IsTurnedDown (outcome.Stored sequence at) = ⊥
IsTurnedDown (outcome.Full503 at places) = ⊥
IsTurnedDown (outcome.LogFull509 at entries bytes) = ⊥
IsTurnedDown other = Unit {0}

-- what a number that was held has then, and the rooms without the one that ended; the checkpoints stay
pub record IsSpent (before after : State) (room : Room) (number : Number) (e : Entry) : Type 0 where
  pub stored : history_on after ≡ stored_at before number.value e
  pub book : book_on after ≡ with_entry number.value e (book_on before)
  pub rooms : after.rooms ≡ without_room room.made_for before.rooms
  pub checkpoints : after.checkpoints ≡ before.checkpoints

-- the write is stored at its number, or handed back with all where its document was written above that
abbrev pub IsHeldStored : State → State → Room → Number → Ready → Retried → Type 0
IsHeldStored before after room number c (retried.Answered answer) =
    (answer ≡ outcome.Stored number.value c.entry.at) × (c.base < number.value) × IsSpent before after room number (kinds.Write c.entry)
IsHeldStored before after room number c (retried.Overtaken r n ready) =
    (r ≡ room) × (n ≡ number) × (ready ≡ c) × (number.value ≤ c.base) × IsAsBefore before after

-- the revision's write is stored at its number
pub record IsStoredAgain (before after : State) (program : Program) (strict : Bool) (by : Option (List ℕ)) (r : Revision) (room : Room) (number : Number) (answer : Outcome) : Type 0 where
  pub ready : Ready
  pub is_ready : IsReady before program strict by r ready
  pub above : ready.base < number.value
  pub answered : answer ≡ outcome.Stored number.value ready.entry.at
  pub spent : IsSpent before after room number (kinds.Write ready.entry)

-- the revision is turned down, and its number stays unused
pub record IsTurnedDownAgain (before after : State) (program : Program) (strict : Bool) (by : Option (List ℕ)) (r : Revision) (room : Room) (number : Number) (answer : Outcome) : Type 0 where
  pub judged : IsOutcome program strict by r (board_of before) answer
  pub down : IsTurnedDown answer
  pub spent : IsSpent before after room number kinds.Unused

-- the revision's write is handed back with all, since its document was written above the number
pub record IsHandedBack (before after : State) (program : Program) (strict : Bool) (by : Option (List ℕ)) (r : Revision) (room : Room) (number : Number) (ready : Ready) : Type 0 where
  pub is_ready : IsReady before program strict by r ready
  pub above : number.value ≤ ready.base
  pub same : IsAsBefore before after

-- what comes of a second try
abbrev pub IsTriedAgain : State → State → Program → Bool → Option (List ℕ) → Revision → Room → Number → Retried → Type 0
IsTriedAgain before after program strict by r room number (retried.Answered answer) =
    IsStoredAgain before after program strict by r room number answer ⊎ IsTurnedDownAgain before after program strict by r room number answer
IsTriedAgain before after program strict by r room number (retried.Overtaken given held ready) =
    (given ≡ room) × (held ≡ number) × IsHandedBack before after program strict by r room number ready
