-- What a get and a set of a checkpoint do at a ground.
use Rattle.std.specs.Prelude.{◌≡◌, ℕ, List, Option, Some, None}
use Rattle.sg_history.specs.Board.{BoardState, SideEntry}
use Rattle.checkpoint_store.specs.declared.answers.SetAnswer.{SetAnswer}
use Rattle.checkpoint_store.specs.Answers.{Sets}
use Rattle.checkpoint_store.specs.Checkpoints.{AreCheckpoints}
use Rattle.doc_board.specs.State.{State}
use Rattle.seq_gate.specs.declared.known.Known.{Known}
use Rattle.write_path.specs.Reads.{WasRead}
use Rattle.write_path.specs.Shared.{IsTurn, Rests}

-- the board has these checkpoints, where they are recorded
abbrev pub HasCheckpoints : Option (List SideEntry) → BoardState → Type 0
HasCheckpoints None b = Unit {0}
HasCheckpoints (Some side) b = b.side ≡ side

-- the recorded checkpoints once these are left; where none are recorded, none are then
abbrev pub checkpoints_after : Option (List SideEntry) → List SideEntry → Option (List SideEntry)
checkpoints_after None left = None
checkpoints_after (Some before) left = Some left

-- a set under a text, which names a number, answers by the checkpoints of a board that was read in between, which are the recorded
-- ones, and leaves those of another that was read in between, which are recorded then; what it leaves are checkpoints
pub record SetsCheckpoint (before after : List BoardState) (recorded recorded_after : Option (List SideEntry)) (text : List ℕ) (rev : ℕ) (body : List ℕ) (answer : SetAnswer) : Type 0 where
  pub found : BoardState
  pub was_found : WasRead before after found
  pub has_checkpoints : HasCheckpoints recorded found
  pub left : BoardState
  pub was_left : WasRead before after left
  pub sets : Sets found.side text rev body answer left.side
  pub checkpoints : AreCheckpoints left.side
  pub recorded_is : recorded_after ≡ checkpoints_after recorded left.side

-- a set leaves these checkpoints, and checkpoints alone; the log, what waits and the rooms are as before
pub record IsBoardSet (before after : State) (text : List ℕ) (rev : ℕ) (body : List ℕ) (answer : SetAnswer) : Type 0 where
  pub log : after.log ≡ before.log
  pub pending : after.pending ≡ before.pending
  pub rooms : after.rooms ≡ before.rooms
  pub sets : Sets before.checkpoints text rev body answer after.checkpoints
  pub checkpoints : AreCheckpoints after.checkpoints

-- a pass that rests took a turn in which a checkpoint was set, or not, by what the answer says; it leaves checkpoints
pub record IsSetTurn (before after : Known) (text : List ℕ) (rev : ℕ) (body : List ℕ) (answer : SetAnswer) : Type 0 where
  pub found : BoardState
  pub left : BoardState
  pub turn : IsTurn before after found left
  pub own : after.own ≡ before.own
  pub rests : Rests after
  pub sets : Sets found.side text rev body answer left.side
  pub checkpoints : AreCheckpoints left.side
