use Rattle.std.proofs.Common.{◌≡◌, ◌<◌, ◌∙◌, ℕ, List, sym, ap, subst}
use Rattle.std.specs.Option.{option_copied}
use Rattle.sg_history.specs.Board.{BoardState}
use Rattle.seq_gate.specs.Counts.{times}
use Rattle.seq_gate.specs.Passes.{Finds}
use Rattle.seq_gate.specs.declared.known.Known.{Known}
use Rattle.doc_board.specs.Boards.{board_of}
use Rattle.doc_board.specs.State.{State}
use Rattle.write_path.specs.Shelf.{Shelved, shelf_state}
use Rattle.write_path.specs.inner.Turns.{IsCommitted, IsOvertakenAt}
use Rattle.write_path.proofs.Committing.{accepted_here, committed, may_leave_tried, overtaken_at}
use Rattle.write_path.proofs.Sharing.{knows_in, may_in}
use Rattle.write_path.proofs.Turning.{may_store, room_out, times_one}
use Rattle.write_path.proofs.proposing.commit_in_turn.Goals as goal

pub store_or_retry-requires-clause-number : goal.store_or_retry-requires-clause-number
store_or_retry-requires-clause-number g c =
    let p : Known = c.args.pass.knows in
    let s : State = c.board.result.now.board in
    let here : c.enter-turn.result.found ≡ board_of s = sym c.enter-turn.ensures.board ∙ ap (λ (shelf : Shelved). shelf_state shelf) (sym c.board.ensures.value) in
    let finds : Finds p (board_of s) = subst (λ (b : BoardState). Finds p b) here c.enter-turn.ensures.finds in
    may_store p s c.args.number.value finds (subst (λ (ns : List ℕ). 0 < times c.args.number.value ns) (sym c.requires.held) (times_one c.args.number.value))

pub store_or_retry-requires-clause-out : goal.store_or_retry-requires-clause-out
store_or_retry-requires-clause-out g c =
    let p : Known = c.args.pass.knows in
    let s : State = c.board.result.now.board in
    let here : c.enter-turn.result.found ≡ board_of s = sym c.enter-turn.ensures.board ∙ ap (λ (shelf : Shelved). shelf_state shelf) (sym c.board.ensures.value) in
    let finds : Finds p (board_of s) = subst (λ (b : BoardState). Finds p b) here c.enter-turn.ensures.finds in
    room_out p s c.args.room.made_for finds c.requires.rooms

pub store_or_retry-requires-clause-accepted : goal.store_or_retry-requires-clause-accepted
store_or_retry-requires-clause-accepted g c =
    let p : Known = c.args.pass.knows in
    let s : State = c.board.result.now.board in
    let here : c.enter-turn.result.found ≡ board_of s = sym c.enter-turn.ensures.board ∙ ap (λ (shelf : Shelved). shelf_state shelf) (sym c.board.ensures.value) in
    let finds : Finds p (board_of s) = subst (λ (b : BoardState). Finds p b) here c.enter-turn.ensures.finds in
    (c.requires.accepted.0, accepted_here p c.requires.accepted.0 s c.args.program.now c.args.strict (option_copied c.args.by) c.args.revision c.args.number.value c.args.accepted finds c.requires.accepted.1)

pub leave-requires-clause-may : goal.leave-requires-clause-may
leave-requires-clause-may g c =
    let p : Known = c.args.pass.knows in
    let s : State = c.board.result.now.board in
    let here : c.enter-turn.result.found ≡ board_of s = sym c.enter-turn.ensures.board ∙ ap (λ (shelf : Shelved). shelf_state shelf) (sym c.board.ensures.value) in
    let finds : Finds p (board_of s) = subst (λ (b : BoardState). Finds p b) here c.enter-turn.ensures.finds in
    let t : State = c.store_or_retry.new.self.board in
    let judged : State = c.requires.accepted.0 in
    may_in p c.enter-turn.result.knows c.enter-turn.result.found (board_of s) (board_of t) c.enter-turn.ensures.knows here
    (may_leave_tried (record { commit = c.after.ensures.commit; swap = c.after.ensures.swap; void = c.after.ensures.void })
    (record { next = c.judged_writes.ensures.next; last = c.last_writes.ensures; same = c.boards-2.ensures.last })
    (record { last = c.boards-2.ensures.last; trees = c.boards-2.ensures.trees; later = c.later_boards.ensures.trees })
    (record { book = c.storing.ensures.book; rises = c.storing.ensures.rises; released = c.storing.ensures.released })
    c.boards.ensures.again
    p judged s t c.args.program.now c.args.strict (option_copied c.args.by) c.args.revision c.args.accepted c.args.room c.args.number c.in-Answered.outcome finds c.requires.held c.requires.rooms c.requires.doc c.requires.bytes c.requires.accepted.1
    (c.in-Answered.ensures judged (accepted_here p judged s c.args.program.now c.args.strict (option_copied c.args.by) c.args.revision c.args.number.value c.args.accepted finds c.requires.accepted.1)))

pub returns-in-Answered-clause-committed : goal.returns-in-Answered-clause-committed
returns-in-Answered-clause-committed g c = λ judged is.
    let p : Known = c.args.pass.knows in
    let s : State = c.board.result.now.board in
    let here : c.enter-turn.result.found ≡ board_of s = sym c.enter-turn.ensures.board ∙ ap (λ (shelf : Shelved). shelf_state shelf) (sym c.board.ensures.value) in
    let finds : Finds p (board_of s) = subst (λ (b : BoardState). Finds p b) here c.enter-turn.ensures.finds in
    let t : State = c.store_or_retry.new.self.board in
    subst (λ (q : Known). IsCommitted p q judged c.args.program.now c.args.strict (option_copied c.args.by) c.args.revision c.in-Answered.outcome)
    (knows_in p c.enter-turn.result.knows c.leave.result.knows c.enter-turn.result.found (board_of s) (board_of t) c.enter-turn.ensures.knows here c.leave.ensures.knows)
    (committed (record { commit = c.after.ensures.commit; swap = c.after.ensures.swap; void = c.after.ensures.void })
    (record { next = c.judged_writes.ensures.next; last = c.last_writes.ensures; same = c.boards-2.ensures.last })
    (record { last = c.boards-2.ensures.last; trees = c.boards-2.ensures.trees; later = c.later_boards.ensures.trees })
    (record { book = c.storing.ensures.book; rises = c.storing.ensures.rises; released = c.storing.ensures.released })
    c.boards.ensures.again
    p judged s t c.args.program.now c.args.strict (option_copied c.args.by) c.args.revision c.args.accepted c.args.room c.args.number c.in-Answered.outcome finds c.requires.held c.requires.rooms c.requires.doc c.requires.bytes is
    (c.in-Answered.ensures judged (accepted_here p judged s c.args.program.now c.args.strict (option_copied c.args.by) c.args.revision c.args.number.value c.args.accepted finds is)))

pub swap_in_turn-requires-clause-given : goal.swap_in_turn-requires-clause-given
swap_in_turn-requires-clause-given g c =
    let p : Known = c.args.pass.knows in
    let s : State = c.board.result.now.board in
    let here : c.enter-turn.result.found ≡ board_of s = sym c.enter-turn.ensures.board ∙ ap (λ (shelf : Shelved). shelf_state shelf) (sym c.board.ensures.value) in
    let finds : Finds p (board_of s) = subst (λ (b : BoardState). Finds p b) here c.enter-turn.ensures.finds in
    let judged : State = c.requires.accepted.0 in
    let tried = c.in-Overtaken.ensures judged (accepted_here p judged s c.args.program.now c.args.strict (option_copied c.args.by) c.args.revision c.args.number.value c.args.accepted finds c.requires.accepted.1) in (
      c.args.program.now,
      c.args.strict,
      option_copied c.args.by,
      c.args.revision,
      subst (λ (k : Known). IsOvertakenAt k c.enter-turn.result.found c.store_or_retry.new.self.board c.args.program.now c.args.strict (option_copied c.args.by) c.args.revision c.in-Overtaken.room c.in-Overtaken.number c.in-Overtaken.ready) (sym c.enter-turn.ensures.knows)
          (overtaken_at p c.enter-turn.result.found s c.store_or_retry.new.self.board c.args.program.now c.args.strict (option_copied c.args.by) c.args.revision c.args.room c.in-Overtaken.room c.args.number c.in-Overtaken.number c.in-Overtaken.ready here finds c.requires.held c.requires.rooms c.requires.doc c.requires.bytes tried),
    )

pub returns-in-Overtaken-clause-committed : goal.returns-in-Overtaken-clause-committed
returns-in-Overtaken-clause-committed g c = λ judged is.
    let p : Known = c.args.pass.knows in
    let s : State = c.board.result.now.board in
    let here : c.enter-turn.result.found ≡ board_of s = sym c.enter-turn.ensures.board ∙ ap (λ (shelf : Shelved). shelf_state shelf) (sym c.board.ensures.value) in
    let finds : Finds p (board_of s) = subst (λ (b : BoardState). Finds p b) here c.enter-turn.ensures.finds in
    let tried = c.in-Overtaken.ensures judged (accepted_here p judged s c.args.program.now c.args.strict (option_copied c.args.by) c.args.revision c.args.number.value c.args.accepted finds is) in
    subst (λ (k : Known). IsCommitted k c.swap_in_turn.result.0.knows judged c.args.program.now c.args.strict (option_copied c.args.by) c.args.revision c.swap_in_turn.result.1) c.enter-turn.ensures.knows
    (c.swap_in_turn.ensures.swapped c.args.program.now c.args.strict (option_copied c.args.by) c.args.revision judged
    (subst (λ (k : Known). IsOvertakenAt k c.enter-turn.result.found c.store_or_retry.new.self.board c.args.program.now c.args.strict (option_copied c.args.by) c.args.revision c.in-Overtaken.room c.in-Overtaken.number c.in-Overtaken.ready) (sym c.enter-turn.ensures.knows)
    (overtaken_at p c.enter-turn.result.found s c.store_or_retry.new.self.board c.args.program.now c.args.strict (option_copied c.args.by) c.args.revision c.args.room c.in-Overtaken.room c.args.number c.in-Overtaken.number c.in-Overtaken.ready here finds c.requires.held c.requires.rooms c.requires.doc c.requires.bytes tried)))
