use Rattle.std.proofs.Common.{◌≡◌, ◌∙◌, ℕ, List, sym, ap, subst}
use Rattle.sg_history.specs.Board.{BoardState, After}
use Rattle.seq_gate.specs.Passes.{Finds}
use Rattle.seq_gate.specs.declared.known.Known.{Known}
use Rattle.checkpoint_store.specs.Checkpoints.{checkpoint_text}
use Rattle.doc_board.specs.Boards.{board_of}
use Rattle.doc_board.specs.State.{State}
use Rattle.write_path.specs.Checkpoints.{IsSetTurn}
use Rattle.write_path.specs.Shelf.{Shelved, shelf_state}
use Rattle.write_path.proofs.Checkpointing.{may_leave_set, set_turn}
use Rattle.write_path.proofs.Sharing.{knows_in, may_in}
use Rattle.write_path.proofs.storing.set_in_turn.Goals as goal

pub leave-requires-clause-may : goal.leave-requires-clause-may
leave-requires-clause-may g c =
    let p : Known = c.args.pass.knows in
    let s : State = c.board.result.now.board in
    let t : State = c.set_checkpoint-answer.new.self.board in
    let text : List ℕ = checkpoint_text c.args.user.now c.args.client.now in
    let is = c.set_checkpoint-answer.ensures in
    let here : c.enter-turn.result.found ≡ board_of s = sym c.enter-turn.ensures.board ∙ ap (λ (shelf : Shelved). shelf_state shelf) (sym c.board.ensures.value) in
    let finds : Finds p (board_of s) = subst (λ (b : BoardState). Finds p b) here c.enter-turn.ensures.finds in
    let next : After (board_of s) (board_of t) = c.after.ensures.set s t text c.args.rev c.args.body c.set_checkpoint-answer.result is.log is.pending is.rooms is.sets in
    may_in p c.enter-turn.result.knows c.enter-turn.result.found (board_of s) (board_of t) c.enter-turn.ensures.knows here
    (may_leave_set p s t text c.args.rev c.args.body c.set_checkpoint-answer.result finds c.requires.rests next is)

pub returns-clause-set : goal.returns-clause-set
returns-clause-set g c =
    let p : Known = c.args.pass.knows in
    let s : State = c.board.result.now.board in
    let t : State = c.set_checkpoint-answer.new.self.board in
    let text : List ℕ = checkpoint_text c.args.user.now c.args.client.now in
    let is = c.set_checkpoint-answer.ensures in
    let here : c.enter-turn.result.found ≡ board_of s = sym c.enter-turn.ensures.board ∙ ap (λ (shelf : Shelved). shelf_state shelf) (sym c.board.ensures.value) in
    let finds : Finds p (board_of s) = subst (λ (b : BoardState). Finds p b) here c.enter-turn.ensures.finds in
    let next : After (board_of s) (board_of t) = c.after.ensures.set s t text c.args.rev c.args.body c.set_checkpoint-answer.result is.log is.pending is.rooms is.sets in
    subst (λ (q : Known). IsSetTurn p q text c.args.rev c.args.body c.set_checkpoint-answer.result)
    (knows_in p c.enter-turn.result.knows c.leave.result.knows c.enter-turn.result.found (board_of s) (board_of t) c.enter-turn.ensures.knows here c.leave.ensures.knows)
    (set_turn p s t text c.args.rev c.args.body c.set_checkpoint-answer.result finds c.requires.rests next is)
