-- boards that nobody else has
use Rattle.std.proofs.Common.{◌≡◌, ◌||◌, ℕ, Bool, true, false, List, [], Option, refl, subst}
use Rattle.sg_history.specs.Board.{BoardState}
use Rattle.sg_history.specs.declared.entries.Write.{Write}
use Rattle.rev_tree.specs.Extension.{Verdict, is_known, has_bad_history, makes_conflict, extends_tree}
use Rattle.repl_messages.specs.declared.revision.Revision.{Revision}
use Rattle.sync_syntax.specs.declared.tree.Program.{Program}
use Rattle.doc_board.specs.declared.outcome.Outcome.{Outcome}
use Rattle.doc_board.specs.declared.outcome.Outcome.TheVariants as outcome
use Rattle.doc_board.specs.Boards.{board_of}
use Rattle.doc_board.specs.Outcomes.{IsJudged, IsOutcome, IsWriteOf}
use Rattle.doc_board.specs.State.{State}
use Rattle.board_steps.specs.After.{IsBoardAfter}
use Rattle.session_threads.specs.Opened.{alone}
use Rattle.session_threads.proofs.Alone.{board_alone, without_checkpoints}

judged_without : (strict : Bool) (by : Option (List ℕ)) (r : Revision) (s : State) (said : Verdict) (at : ℕ) → IsJudged strict by r (board_of s) said at → IsJudged strict by r (board_of (without_checkpoints s)) said at
judged_without strict by r s said at is = record { formed = is.formed; proposer = is.proposer; verdict = is.verdict; front = is.front }

outcome_without : (program : Program) (strict : Bool) (by : Option (List ℕ)) (r : Revision) (s : State) (answer : Outcome) → IsOutcome program strict by r (board_of s) answer
    → IsOutcome program strict by r (board_of (without_checkpoints s)) answer
outcome_without program strict by r s (outcome.Bad400 field) is = is
outcome_without program strict by r s (outcome.TooLarge413 bytes) is = is
outcome_without program strict by r s (outcome.UserGone401 at) is = record { formed = is.formed; gone = is.gone; front = is.front }
outcome_without program strict by r s (outcome.Known at) is = judged_without strict by r s is_known at is
outcome_without program strict by r s (outcome.BadHistory400 at) is = judged_without strict by r s has_bad_history at is
outcome_without program strict by r s (outcome.Conflict409 at leaf) is = (judged_without strict by r s makes_conflict at is.0, is.1)
outcome_without program strict by r s (outcome.Denied403 at rule) is = (judged_without strict by r s extends_tree at is.0, is.1)
outcome_without program strict by r s (outcome.Stored sequence at) is = (judged_without strict by r s extends_tree at is.0, is.1, is.2)
outcome_without program strict by r s (outcome.Full503 at places) is = (judged_without strict by r s extends_tree at is.0, is.1)
outcome_without program strict by r s (outcome.LogFull509 at entries bytes) is = (judged_without strict by r s extends_tree at is.0, is.1)
outcome_without program strict by r s outcome.Memory507 is = is

pub outcome_alone : (s : State) → s.pending ≡ [] → s.rooms ≡ [] → (program : Program) (strict : Bool) (by : Option (List ℕ)) (r : Revision) (answer : Outcome) → IsOutcome program strict by r (board_of s) answer → IsOutcome program strict by r (board_of (alone s.log)) answer
outcome_alone s idle none program strict by r answer is =
    subst (λ (b : BoardState). IsOutcome program strict by r b answer) (board_alone s idle none) (outcome_without program strict by r s answer is)

write_without : (program : Program) (by : Option (List ℕ)) (r : Revision) (s : State) (w : Write) → IsWriteOf program by r (board_of s) w → IsWriteOf program by r (board_of (without_checkpoints s)) w
write_without program by r s w is = record {
  doc = is.doc;
  rev = is.rev;
  ancestors = is.ancestors;
  deleted = is.deleted;
  body = is.body;
  by = is.by;
  at = is.at;
  winner = is.winner;
  accepted = is.accepted;
}

pub after_alone : (s t : State) → s.pending ≡ [] → s.rooms ≡ [] → (program : Program) (by : Option (List ℕ)) (r : Revision) (answer : Outcome) → IsBoardAfter s t program by r answer → IsBoardAfter (alone s.log) (alone t.log) program by r answer
after_alone s t idle none program by r (outcome.Bad400 field) left = record { log = left.log; pending = refl; rooms = refl; checkpoints = refl }
after_alone s t idle none program by r (outcome.TooLarge413 bytes) left = record { log = left.log; pending = refl; rooms = refl; checkpoints = refl }
after_alone s t idle none program by r (outcome.UserGone401 at) left = record { log = left.log; pending = refl; rooms = refl; checkpoints = refl }
after_alone s t idle none program by r (outcome.Known at) left = record { log = left.log; pending = refl; rooms = refl; checkpoints = refl }
after_alone s t idle none program by r (outcome.BadHistory400 at) left = record { log = left.log; pending = refl; rooms = refl; checkpoints = refl }
after_alone s t idle none program by r (outcome.Conflict409 at leaf) left = record { log = left.log; pending = refl; rooms = refl; checkpoints = refl }
after_alone s t idle none program by r (outcome.Denied403 at rule) left = record { log = left.log; pending = refl; rooms = refl; checkpoints = refl }
after_alone s t idle none program by r (outcome.Stored sequence at) left = record {
  write = left.write;
  next = left.next;
  log = left.log;
  pending = refl;
  rooms = refl;
  checkpoints = refl;
  is_write = subst (λ (b : BoardState). IsWriteOf program by r b left.write) (board_alone s idle none) (write_without program by r s left.write left.is_write);
}
after_alone s t idle none program by r (outcome.Full503 at places) left = record { log = left.log; pending = refl; rooms = refl; checkpoints = refl }
after_alone s t idle none program by r (outcome.LogFull509 at entries bytes) left = record { log = left.log; pending = refl; rooms = refl; checkpoints = refl }
after_alone s t idle none program by r outcome.Memory507 left = record { log = left.log; pending = refl; rooms = refl; checkpoints = refl }

-- a revision that says nothing of conflicts leaves it to the ground
pub strict_alone : (strict noconflicts : Bool) → noconflicts ≡ false → (strict || noconflicts) ≡ strict
strict_alone true noconflicts plain = refl
strict_alone false noconflicts plain = plain
