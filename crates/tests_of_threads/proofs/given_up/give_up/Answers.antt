use denote.Param.Send.{sendable}
use Rattle.std.proofs.Common.{◌≡◌, ◌<◌, ◌∙◌, ℕ, List, sym, ap, subst}
use Rattle.sg_history.specs.declared.entries.Entry.TheVariants as kinds
use Rattle.sg_history.specs.Board.{BoardState, After}
use Rattle.pending_front.specs.Storing.{MayStore}
use Rattle.seq_gate.specs.Counts.{times}
use Rattle.seq_gate.specs.Passes.{Finds, MayLeave}
use Rattle.seq_gate.specs.declared.known.Known.{Known}
use Rattle.doc_board.specs.Boards.{board_of}
use Rattle.doc_board.specs.State.{State}
use Rattle.write_path.proofs.Crossing.{shelf_send}
use Rattle.write_path.proofs.Sharing.{may_in}
use Rattle.write_path.proofs.Turning.{may_leave_stored, may_store, room_out, times_one}
use Rattle.tests_of_threads.proofs.given_up.give_up.Goals as goal

pub enter-turn-requires-send-B : goal.enter-turn-requires-send-B
enter-turn-requires-send-B g c κs within = search (shelf_send, sendable) depth 20

pub leave-requires-send-B : goal.leave-requires-send-B
leave-requires-send-B g c κs = search (shelf_send, sendable) depth 20

pub void-requires-clause-number : goal.void-requires-clause-number
void-requires-clause-number g c =
    let p : Known = c.args.pass.knows in
    let s : State = c.taken-board.result in
    let number : ℕ = c.args.number.value in
    let here : c.enter-turn.result.found ≡ board_of s = sym c.enter-turn.ensures.board ∙ ap (λ (x : State). board_of x) (sym c.taken-board.ensures.board) in
    let finds : Finds p (board_of s) = subst (λ (b : BoardState). Finds p b) here c.enter-turn.ensures.finds in
    may_store p s number finds (subst (λ (ns : List ℕ). 0 < times number ns) (sym c.requires.held) (times_one number))

pub void-requires-clause-out : goal.void-requires-clause-out
void-requires-clause-out g c =
    let p : Known = c.args.pass.knows in
    let s : State = c.taken-board.result in
    let here : c.enter-turn.result.found ≡ board_of s = sym c.enter-turn.ensures.board ∙ ap (λ (x : State). board_of x) (sym c.taken-board.ensures.board) in
    room_out p s c.args.room.made_for (subst (λ (b : BoardState). Finds p b) here c.enter-turn.ensures.finds) c.requires.rooms

pub leave-requires-clause-may : goal.leave-requires-clause-may
leave-requires-clause-may g c κs =
    let p : Known = c.args.pass.knows in
    let s : State = c.taken-board.result in
    let t : State = c.void.new.self in
    let number : ℕ = c.args.number.value in
    let here : c.enter-turn.result.found ≡ board_of s = sym c.enter-turn.ensures.board ∙ ap (λ (x : State). board_of x) (sym c.taken-board.ensures.board) in
    let finds : Finds p (board_of s) = subst (λ (b : BoardState). Finds p b) here c.enter-turn.ensures.finds in
    let may : MayStore s.log s.pending number = may_store p s number finds (subst (λ (ns : List ℕ). 0 < times number ns) (sym c.requires.held) (times_one number)) in
    let gone = c.void.ensures in
    let next : After (board_of s) (board_of t) = c.after.ensures.void s t c.args.room.made_for number may (room_out p s c.args.room.made_for finds c.requires.rooms) gone.stored gone.book gone.rooms gone.checkpoints in
    let knows : c.put_back.new.turn.knows ≡ p = c.put_back.ensures.knows ∙ c.taken-board.ensures.knows ∙ c.enter-turn.ensures.knows in
    let found : c.put_back.new.turn.found ≡ board_of s = c.put_back.ensures.found ∙ c.taken-board.ensures.found ∙ here in
    subst (λ (x : State). MayLeave c.put_back.new.turn.knows c.put_back.new.turn.found (board_of x)) (sym c.put_back.ensures.board)
    (may_in p c.put_back.new.turn.knows c.put_back.new.turn.found (board_of s) (board_of t) knows found
    (may_leave_stored (record { book = c.storing.ensures.book; rises = c.storing.ensures.rises; released = c.storing.ensures.released }) p s t c.args.room.made_for number kinds.Unused finds c.requires.held c.requires.rooms next gone.stored gone.book gone.rooms))
