use Rattle.std.proofs.Common.{◌≡◌, ◌||◌, ◌∷◌, ◌∙◌, ap, sym, subst, List, Some}
use Rattle.std.specs.Option.{option_copied}
use Rattle.sg_history.specs.declared.book.Waiting.{Waiting}
use Rattle.sg_history.specs.Board.{BoardState, SideEntry, After}
use Rattle.doc_board.specs.Boards.{board_of}
use Rattle.doc_board.specs.State.{State}
use Rattle.write_path.specs.Own.{EndsWith, own_after}
use Rattle.write_path.proofs.Checkpointing.{proposed_still}
use Rattle.write_path.proofs.OwnEnds.{ends_proposed}
use Rattle.write_path.proofs.Proposed.{after_answer, all_after, no_rooms, none_waits, recorded_then, stores}
use Rattle.write_path.proofs.solo.SoloGroundGround.propose.Goals as goal

pub invariant_of-self : goal.invariant_of-self
invariant_of-self c =
    let s : State = c.self.inside.shelf.board in
    let t : State = c.propose-outcome.new.self.board in
    let on : After (board_of s) (board_of t) =
    after_answer c.later.ensures.extended c.boards.ensures.itself s t c.args.program.now (c.args.strict || c.args.revision.noconflicts) (option_copied c.args.by) c.args.revision c.propose-outcome.result c.self.invariant.3 c.propose-outcome.ensures.outcome c.propose-outcome.ensures.board in
    let read : c.add-2.new.self ≡ board_of t ∷ board_of s ∷ c.self.inside.read =
    c.add-2.ensures ∙ ap (λ (before : List BoardState). board_of t ∷ before) c.add.ensures in
    let owns : c.record_own.new.own ≡ own_after c.self.inside.own t.log c.propose-outcome.result =
    c.record_own.ensures ∙ ap (λ (b : State). own_after c.self.inside.own b.log c.propose-outcome.result) c.board.ensures in
    let O : List Waiting → Type 0 = λ own. EndsWith t.log own in
    rw read
    ((c.boards.ensures.itself (board_of t), (on, all_after c.boards.ensures.again c.self.inside.read (board_of s) (board_of t) c.self.invariant.0 on)), no_rooms s t c.args.program.now (option_copied c.args.by) c.args.revision c.propose-outcome.result c.self.invariant.1 c.propose-outcome.ensures.board, subst O (sym owns) (c.self.invariant.2.0, ends_proposed c.self.invariant.2.0 s t c.self.inside.own c.args.program.now (option_copied c.args.by) c.args.revision c.propose-outcome.result c.propose-outcome.ensures.board c.self.invariant.2.1), none_waits s t c.args.program.now (option_copied c.args.by) c.args.revision c.propose-outcome.result c.self.invariant.3 c.propose-outcome.ensures.board)

pub returns-clause-stores : goal.returns-clause-stores
returns-clause-stores c =
    let s : State = c.self.inside.shelf.board in
    let t : State = c.propose-outcome.new.self.board in
    let read : c.add-2.new.self ≡ board_of t ∷ board_of s ∷ c.self.inside.read =
    c.add-2.ensures ∙ ap (λ (before : List BoardState). board_of t ∷ before) c.add.ensures in
    let owns : c.record_own.new.own ≡ own_after c.self.inside.own t.log c.propose-outcome.result =
    c.record_own.ensures ∙ ap (λ (b : State). own_after c.self.inside.own b.log c.propose-outcome.result) c.board.ensures in
    rw (← c.self.view_is)
    (stores (record { next = c.judged_writes.ensures.next; last = c.last_writes.ensures; same = c.boards-2.ensures.last; above = c.alone.ensures.above }) c.later.ensures.extended c.boards.ensures.itself c.boards.ensures.again _ _ _ _ s t c.args.program.now (c.args.strict || c.args.revision.noconflicts) (option_copied c.args.by) c.args.revision c.propose-outcome.result c.self.invariant.3 read owns c.self.invariant.0 c.propose-outcome.ensures.outcome c.propose-outcome.ensures.limits c.propose-outcome.ensures.board)

pub returns-clause-recorded : goal.returns-clause-recorded
returns-clause-recorded c =
    rw (← c.self.view_is)
    (recorded_then c.self.inside.shelf.board c.propose-outcome.new.self.board c.args.program.now (option_copied c.args.by) c.args.revision c.propose-outcome.result c.propose-outcome.ensures.board)

pub returns-clause-checkpoints : goal.returns-clause-checkpoints
returns-clause-checkpoints c =
    rw (← c.self.view_is)
    (ap (λ (side : List SideEntry). Some side) (proposed_still c.self.inside.shelf.board c.propose-outcome.new.self.board c.args.program.now (option_copied c.args.by) c.args.revision c.propose-outcome.result c.propose-outcome.ensures.board))
