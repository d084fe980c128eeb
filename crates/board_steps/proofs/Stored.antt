-- what storing a write that the board judged answers, and what it leaves
use Rattle.std.proofs.Common.{◌≡◌, ◌∙◌, ◌+◌, ◌≤◌, ◌++◌, ◌∷◌, [], ℕ, Bool, List, length, Option, sym, ap, subst, arith}
use Rattle.sg_history.specs.declared.entries.Entry.{Entry}
use Rattle.sg_history.specs.declared.entries.Entry.TheVariants as kinds
use Rattle.sg_history.specs.Board.{BoardState}
use Rattle.repl_messages.specs.declared.revision.Revision.{Revision}
use Rattle.rev_tree.specs.Extension.{extends_tree}
use Rattle.sync_syntax.specs.declared.tree.Program.{Program}
use Rattle.doc_board.specs.declared.outcome.Outcome.{Outcome}
use Rattle.doc_board.specs.declared.outcome.Outcome.TheVariants as outcome
use Rattle.doc_board.specs.Boards.{board_of}
use Rattle.doc_board.specs.Outcomes.{IsByLimits, IsJudged, IsOutcome}
use Rattle.doc_board.specs.State.{State}
use Rattle.board_steps.specs.declared.retry.Ready.{Ready}
use Rattle.board_steps.specs.After.{IsBoardCommanded, IsAsBefore, IsBoardAfter}
use Rattle.board_steps.specs.Retry.{IsReady, IsTurnedDown}
use Rattle.board_steps.specs.Shape.{IsAnsweredBy}
use Rattle.board_steps.proofs.SameBoards.{small_body, same_board}

-- ---- a write that is ready at a board with the same log, the same that waits and the same rooms

module _ (s m t : State) (program : Program) (strict : Bool) (by : Option (List ℕ)) (r : Revision) (c : Ready) (same : IsAsBefore s m) (ready : IsReady s program strict by r c) where
  on : IsAsBefore m t → IsAsBefore s t
  on after = record { log = after.log ∙ same.log; pending = after.pending ∙ same.pending; rooms = after.rooms ∙ same.rooms; checkpoints = after.checkpoints ∙ same.checkpoints }

  judged_at : (at : ℕ) → at ≡ length m.log → IsJudged strict by r (board_of s) extends_tree at
  judged_at at is =
      record { formed = ready.judged.formed; proposer = ready.judged.proposer; verdict = ready.judged.verdict; front = is ∙ ap (λ (es : List Entry). length es) same.log }

  outcome_is : (answer : Outcome) → IsBoardCommanded m t (kinds.Write c.entry) answer → IsOutcome program strict by r (board_of s) answer
  outcome_is (outcome.Bad400 field) h = absurd h
  outcome_is (outcome.TooLarge413 bytes) h = absurd h
  outcome_is (outcome.UserGone401 at) h = absurd h
  outcome_is (outcome.Known at) h = absurd h
  outcome_is (outcome.BadHistory400 at) h = absurd h
  outcome_is (outcome.Conflict409 at leaf) h = absurd h
  outcome_is (outcome.Denied403 at rule) h = absurd h
  outcome_is (outcome.Stored sequence at) h = (judged_at at h.front, ready.accepted, omega (arith, h.next, h.front))
  outcome_is (outcome.Full503 at places) h = (judged_at at h.1, ready.accepted)
  outcome_is (outcome.LogFull509 at entries bytes) h = (judged_at at h.1, ready.accepted)
  outcome_is outcome.Memory507 h = tt

  board_is : (answer : Outcome) → IsBoardCommanded m t (kinds.Write c.entry) answer → IsBoardAfter s t program by r answer
  board_is (outcome.Bad400 field) h = absurd h
  board_is (outcome.TooLarge413 bytes) h = absurd h
  board_is (outcome.UserGone401 at) h = absurd h
  board_is (outcome.Known at) h = absurd h
  board_is (outcome.BadHistory400 at) h = absurd h
  board_is (outcome.Conflict409 at leaf) h = absurd h
  board_is (outcome.Denied403 at rule) h = absurd h
  board_is (outcome.Stored sequence at) h = record {
    write = c.entry;
    next = h.next ∙ ap (λ (es : List Entry). length es + 1) same.log;
    log = h.log ∙ ap (λ (es : List Entry). es ++ kinds.Write c.entry ∷ []) same.log;
    pending = h.pending ∙ same.pending;
    rooms = h.rooms ∙ same.rooms;
    checkpoints = h.checkpoints ∙ same.checkpoints;
    is_write = ready.made.is_write;
  }
  board_is (outcome.Full503 at places) h = on h.0
  board_is (outcome.LogFull509 at entries bytes) h = on h.0
  board_is outcome.Memory507 h = on h

  pub answered : (answer : Outcome) → IsBoardCommanded m t (kinds.Write c.entry) answer → IsByLimits (length c.entry.body) (board_of m) answer → IsAnsweredBy s t program strict by r answer
  answered answer board limits = record {
    outcome = outcome_is answer board;
    limits = subst (λ (n : ℕ). IsByLimits n (board_of s) answer) (ap (λ (b : List ℕ). length b) ready.made.is_write.body) (subst (λ (b : BoardState). IsByLimits (length c.entry.body) b answer) (same_board s m same) limits);
    board = board_is answer board;
  }

-- the body of a write that is ready is no longer than a body may be
pub fits_body : (s : State) (program : Program) (strict : Bool) (by : Option (List ℕ)) (r : Revision) (c : Ready) → IsReady s program strict by r c → length c.entry.body ≤ 20971520
fits_body s program strict by r c ready =
    subst (λ (b : List ℕ). length b ≤ 20971520) (sym ready.made.is_write.body) (small_body r.body ready.judged.formed.size)

-- ---- a revision that is turned down

module _ (s m : State) (program : Program) (strict : Bool) (by : Option (List ℕ)) (r : Revision) (same : IsAsBefore s m) where
  pub turned : (answer : Outcome) → IsOutcome program strict by r (board_of s) answer × IsTurnedDown answer → IsAnsweredBy s m program strict by r answer
  turned (outcome.Bad400 field) h = record { outcome = h.0; limits = tt; board = same }
  turned (outcome.TooLarge413 bytes) h = record { outcome = h.0; limits = tt; board = same }
  turned (outcome.UserGone401 at) h = record { outcome = h.0; limits = tt; board = same }
  turned (outcome.Known at) h = record { outcome = h.0; limits = tt; board = same }
  turned (outcome.BadHistory400 at) h = record { outcome = h.0; limits = tt; board = same }
  turned (outcome.Conflict409 at leaf) h = record { outcome = h.0; limits = tt; board = same }
  turned (outcome.Denied403 at rule) h = record { outcome = h.0; limits = tt; board = same }
  turned (outcome.Stored sequence at) h = absurd h.1
  turned (outcome.Full503 at places) h = absurd h.1
  turned (outcome.LogFull509 at entries bytes) h = absurd h.1
  turned outcome.Memory507 h = record { outcome = h.0; limits = tt; board = same }
