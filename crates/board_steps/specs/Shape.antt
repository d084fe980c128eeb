-- What the functions of a proposal hand on to one another. Only proofs need this.
use Rattle.std.specs.Prelude.{◌≡◌, ℕ, Bool, List, take, option_map, Option, Some, None, Result, Err, IfErr}
use Rattle.sg_history.specs.declared.entries.Write.{Write}
use Rattle.rev_tree.specs.declared.tree.Node.{Node}
use Rattle.rev_tree.specs.Tree.{winner_of}
use Rattle.repl_messages.specs.declared.revision.Revision.{Revision}
use Rattle.doc_board.specs.declared.outcome.Outcome.{Outcome}
use Rattle.doc_board.specs.declared.outcome.Outcome.TheVariants as outcome
use Rattle.doc_board.specs.declared.candidate.NoRoom.{NoRoom}
use Rattle.doc_board.specs.declared.candidate.NoRoom.TheVariants as no_room
use Rattle.sync_meaning.specs.declared.effects.Effects.{Effects}
use Rattle.sync_syntax.specs.declared.tree.Program.{Program}
use Rattle.doc_board.specs.Boards.{board_of}
use Rattle.doc_board.specs.Judging.{body_or_empty}
use Rattle.doc_board.specs.Outcomes.{IsBadPart, IsByLimits, IsOutcome, IsTooLarge, bytes_of, effects_in}
use Rattle.doc_board.specs.State.{State}
use Rattle.board_steps.specs.After.{IsBoardAfter}

-- the refusal of a revision itself, whatever the board; or memory was short
abbrev pub IsRefusal : Revision → Outcome → Type 0
IsRefusal r (outcome.Bad400 field) = IsBadPart r field
IsRefusal r (outcome.TooLarge413 bytes) = IsTooLarge r bytes
IsRefusal r outcome.Memory507 = Unit {0}
IsRefusal r other = ⊥

-- the write of a revision with the first so many of its ancestors, at this front, which names the winner of this tree and has these effects
pub record IsWritten (author : Option (List ℕ)) (r : Revision) (front : ℕ) (tree : List Node) (kept : ℕ) (effects : Effects) (w : Write) : Type 0 where
  pub doc : w.doc ≡ r.doc
  pub rev : w.rev ≡ r.rev
  pub ancestors : w.ancestors ≡ take kept r.ancestors
  pub deleted : w.deleted ≡ r.deleted
  pub body : w.body ≡ body_or_empty r.body
  pub by : w.by ≡ author
  pub at : w.at ≡ front
  pub winner : option_map (λ l. l.rev) (winner_of tree) ≡ Some w.winner
  pub has_effects : effects_in w ≡ effects

-- a write is stored where no room is refused for this reason, else that is answered; memory may be short where there is none
abbrev pub IsStoredBut : Option NoRoom → Result ℕ NoRoom → Type 0
IsStoredBut (Some why) stored = stored ≡ Err why
IsStoredBut None stored = IfErr stored (λ why. why ≡ no_room.Memory)

-- the outcome of a revision or a command that there is no room for
abbrev pub no_room_outcome : ℕ → NoRoom → Outcome
no_room_outcome at (no_room.Full503 places) = outcome.Full503 at places
no_room_outcome at (no_room.LogFull509 entries bytes) = outcome.LogFull509 at entries bytes
no_room_outcome at no_room.Memory = outcome.Memory507

-- the outcome of a revision by a board, and what that leaves of the board
pub record IsAnsweredBy (before after : State) (program : Program) (strict : Bool) (by : Option (List ℕ)) (r : Revision) (answer : Outcome) : Type 0 where
  pub outcome : IsOutcome program strict by r (board_of before) answer
  pub limits : IsByLimits (bytes_of r) (board_of before) answer
  pub board : IsBoardAfter before after program by r answer
