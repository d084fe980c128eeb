use Rattle.std.proofs.Common.{◌≡◌, ◌∷◌, ◌∙◌, sym, subst, List, length}
use Rattle.sg_history.specs.Board.{BoardState, IsAfterAll}
use Rattle.sg_history.specs.declared.entries.Entry.{Entry}
use Rattle.doc_board.specs.Boards.{board_of}
use Rattle.doc_board.specs.State.{State}
use Rattle.board_steps.specs.Feed.{FeedAt}
use Rattle.write_path.specs.Own.{EndsWith}
use Rattle.write_path.specs.Reads.{Reads}
use Rattle.write_path.proofs.OneRead.{one_read, answers_it}
use Rattle.board_steps.proofs.SameBoards.{same_board}
use Rattle.write_path.proofs.solo.SoloGroundGround.feed.Goals as goal

pub invariant_of-self : goal.invariant_of-self
invariant_of-self c =
    let s : State = c.self.inside.shelf.board in
    let t : State = c.feed.new.self.board in
    let same : board_of t ≡ board_of s = same_board s t c.feed.ensures.same in
    let read : c.add.new.self ≡ board_of s ∷ c.self.inside.read = c.add.ensures in
    rw read
    ((
      subst (λ (b : BoardState). IsAfterAll (board_of s ∷ c.self.inside.read) b) (sym same) (c.boards.ensures.itself (board_of s), c.self.invariant.0),
      c.feed.ensures.same.rooms ∙ c.self.invariant.1,
      subst (λ (es : List Entry). EndsWith es c.self.inside.own) (sym c.feed.ensures.same.log) c.self.invariant.2,
      c.feed.ensures.same.pending ∙ c.self.invariant.3,
    ))

pub returns-clause-reads : goal.returns-clause-reads
returns-clause-reads c =
    rw (← c.self.view_is)
    (subst (λ (es : List Entry). Reads c.self.inside.read c.add.new.self (length c.self.inside.shelf.board.log) (length es)) (sym c.feed.ensures.same.log)
    (one_read _ _ (board_of c.self.inside.shelf.board) c.add.ensures c.self.invariant.0))

pub returns-clause-answer : goal.returns-clause-answer
returns-clause-answer c =
    rw (← c.self.view_is)
    (answers_it (λ b fed. FeedAt b.log c.args.user.now c.args.since.now c.args.options.now fed) _ _ (board_of c.self.inside.shelf.board) c.feed.result c.add.ensures c.feed.ensures.answer)
