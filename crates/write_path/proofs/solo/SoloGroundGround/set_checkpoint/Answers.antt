use Rattle.std.proofs.Common.{◌≡◌, ◌∷◌, ◌∙◌, ap, sym, subst, List}
use Rattle.sg_history.specs.declared.entries.Entry.{Entry}
use Rattle.sg_history.specs.Board.{BoardState, After}
use Rattle.checkpoint_store.specs.Checkpoints.{checkpoint_text}
use Rattle.doc_board.specs.Boards.{board_of}
use Rattle.doc_board.specs.State.{State}
use Rattle.write_path.specs.Own.{EndsWith}
use Rattle.write_path.proofs.Checkpointing.{set_here}
use Rattle.write_path.proofs.Proposed.{all_after, two_reads}
use Rattle.write_path.proofs.solo.SoloGroundGround.set_checkpoint.Goals as goal

pub invariant_of-self : goal.invariant_of-self
invariant_of-self c =
    let s : State = c.self.inside.shelf.board in
    let t : State = c.set_checkpoint-answer.new.self.board in
    let is = c.set_checkpoint-answer.ensures in
    let on : After (board_of s) (board_of t) =
    c.after.ensures.set s t (checkpoint_text c.args.user.now c.args.client.now) c.args.rev c.args.body c.set_checkpoint-answer.result is.log is.pending is.rooms is.sets in
    let read : c.add-2.new.self ≡ board_of t ∷ board_of s ∷ c.self.inside.read =
    c.add-2.ensures ∙ ap (λ (before : List BoardState). board_of t ∷ before) c.add.ensures in
    rw read
    ((
      (c.boards.ensures.itself (board_of t), (on, all_after c.boards.ensures.again c.self.inside.read (board_of s) (board_of t) c.self.invariant.0 on)),
      is.rooms ∙ c.self.invariant.1,
      subst (λ (es : List Entry). EndsWith es c.self.inside.own) (sym is.log) c.self.invariant.2,
      is.pending ∙ c.self.invariant.3,
    ))

pub returns-clause-reads : goal.returns-clause-reads
returns-clause-reads c =
    let s : State = c.self.inside.shelf.board in
    let t : State = c.set_checkpoint-answer.new.self.board in
    let is = c.set_checkpoint-answer.ensures in
    let on : After (board_of s) (board_of t) =
    c.after.ensures.set s t (checkpoint_text c.args.user.now c.args.client.now) c.args.rev c.args.body c.set_checkpoint-answer.result is.log is.pending is.rooms is.sets in
    let read : c.add-2.new.self ≡ board_of t ∷ board_of s ∷ c.self.inside.read =
    c.add-2.ensures ∙ ap (λ (before : List BoardState). board_of t ∷ before) c.add.ensures in
    rw (← c.self.view_is) (two_reads c.boards.ensures.again _ _ (board_of s) (board_of t) read c.self.invariant.0 on)

pub returns-clause-sets : goal.returns-clause-sets
returns-clause-sets c =
    let s : State = c.self.inside.shelf.board in
    let t : State = c.set_checkpoint-answer.new.self.board in
    let read : c.add-2.new.self ≡ board_of t ∷ board_of s ∷ c.self.inside.read =
    c.add-2.ensures ∙ ap (λ (before : List BoardState). board_of t ∷ before) c.add.ensures in
    rw (← c.self.view_is)
    (set_here _ _ s t (checkpoint_text c.args.user.now c.args.client.now) c.args.rev c.args.body c.set_checkpoint-answer.result read c.set_checkpoint-answer.ensures)
