use Rattle.std.proofs.Common.{◌≡◌, ◌∷◌, ◌∙◌, ap, sym, subst, List, Some}
use Rattle.sg_history.specs.declared.book.Waiting.{Waiting}
use Rattle.sg_history.specs.Board.{BoardState, SideEntry, After}
use Rattle.principals.specs.Script.{entry_of}
use Rattle.doc_board.specs.Boards.{board_of}
use Rattle.doc_board.specs.State.{State}
use Rattle.write_path.specs.Own.{EndsWith, own_after}
use Rattle.write_path.proofs.Checkpointing.{commanded_still}
use Rattle.write_path.proofs.Commanded.{after_command, commands, no_rooms, none_waits, recorded_then}
use Rattle.write_path.proofs.OwnEnds.{ends_commanded}
use Rattle.write_path.proofs.Proposed.{all_after}
use Rattle.write_path.proofs.solo.SoloGroundGround.command.Goals as goal

pub invariant_of-self : goal.invariant_of-self
invariant_of-self c =
    let s : State = c.self.inside.shelf.board in
    let t : State = c.command-outcome.new.self.board in
    let on : After (board_of s) (board_of t) =
    after_command c.later.ensures.extended c.boards.ensures.itself s t c.args.command c.command-outcome.result c.self.invariant.3 c.command-outcome.ensures.board in
    let read : c.add-2.new.self ≡ board_of t ∷ board_of s ∷ c.self.inside.read =
    c.add-2.ensures ∙ ap (λ (before : List BoardState). board_of t ∷ before) c.add.ensures in
    let owns : c.record_own.new.own ≡ own_after c.self.inside.own t.log c.command-outcome.result =
    c.record_own.ensures ∙ ap (λ (b : State). own_after c.self.inside.own b.log c.command-outcome.result) c.board.ensures in
    let O : List Waiting → Type 0 = λ own. EndsWith t.log own in
    rw read
    ((c.boards.ensures.itself (board_of t), (on, all_after c.boards.ensures.again c.self.inside.read (board_of s) (board_of t) c.self.invariant.0 on)), no_rooms s t (entry_of c.args.command) c.command-outcome.result c.self.invariant.1 c.command-outcome.ensures.board, subst O (sym owns) (c.self.invariant.2.0, ends_commanded c.self.invariant.2.0 s t c.self.inside.own (entry_of c.args.command) c.command-outcome.result c.command-outcome.ensures.board c.self.invariant.2.1), none_waits s t (entry_of c.args.command) c.command-outcome.result c.self.invariant.3 c.command-outcome.ensures.board)

pub returns-clause-commands : goal.returns-clause-commands
returns-clause-commands c =
    let s : State = c.self.inside.shelf.board in
    let t : State = c.command-outcome.new.self.board in
    let read : c.add-2.new.self ≡ board_of t ∷ board_of s ∷ c.self.inside.read =
    c.add-2.ensures ∙ ap (λ (before : List BoardState). board_of t ∷ before) c.add.ensures in
    let owns : c.record_own.new.own ≡ own_after c.self.inside.own t.log c.command-outcome.result =
    c.record_own.ensures ∙ ap (λ (b : State). own_after c.self.inside.own b.log c.command-outcome.result) c.board.ensures in
    rw (← c.self.view_is)
    (commands c.later.ensures.extended c.boards.ensures.itself c.boards.ensures.again _ _ _ _ s t c.args.command c.command-outcome.result c.self.invariant.3 read owns c.self.invariant.0 c.command-outcome.ensures.limits c.command-outcome.ensures.board)

pub returns-clause-recorded : goal.returns-clause-recorded
returns-clause-recorded c =
    rw (← c.self.view_is)
    (recorded_then c.self.inside.shelf.board c.command-outcome.new.self.board (entry_of c.args.command) c.command-outcome.result c.command-outcome.ensures.board)

pub returns-clause-checkpoints : goal.returns-clause-checkpoints
returns-clause-checkpoints c =
    rw (← c.self.view_is)
    (ap (λ (side : List SideEntry). Some side) (commanded_still c.self.inside.shelf.board c.command-outcome.new.self.board (entry_of c.args.command) c.command-outcome.result c.command-outcome.ensures.board))
