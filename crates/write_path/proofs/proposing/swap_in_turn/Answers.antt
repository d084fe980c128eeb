use Rattle.std.proofs.Common.{◌∙◌, ℕ, sym, subst}
use Rattle.seq_gate.specs.Passes.{drawn_in_turn}
use Rattle.seq_gate.specs.declared.known.Known.{Known}
use Rattle.doc_board.specs.Boards.{board_of}
use Rattle.doc_board.specs.State.{State}
use Rattle.write_path.specs.Shelf.{Shelved}
use Rattle.write_path.specs.inner.Turns.{IsCommitted, IsOvertakenAt}
use Rattle.write_path.proofs.Committing.{apart_at, base_at, committed_at, fits_at, fresh_at, may_leave_at, out_at, ready_at, spent_at}
use Rattle.write_path.proofs.Sharing.{knows_in, may_in}
use Rattle.write_path.proofs.proposing.swap_in_turn.Goals as goal

pub store_at_fresh-outcome-requires-clause-spent : goal.store_at_fresh-outcome-requires-clause-spent
store_at_fresh-outcome-requires-clause-spent c =
    let k : Known = c.args.turn.knows in
    let given = c.requires.given in
    let at : IsOvertakenAt k c.args.turn.found c.board.result.now.board given.0 given.1 given.2 given.3 c.args.room c.args.number c.args.ready =
    subst (λ (shelf : Shelved). IsOvertakenAt k c.args.turn.found shelf.board given.0 given.1 given.2 given.3 c.args.room c.args.number c.args.ready) (sym (c.board.ensures.value ∙ c.draw_in_turn-fresh.ensures.board)) given.4 in
    spent_at k c.args.turn.found c.board.result.now.board given.0 given.1 given.2 given.3 c.args.room c.args.number c.args.ready c.draw_in_turn-fresh.result.value at c.draw_in_turn-fresh.ensures.fresh c.draw_in_turn-fresh.ensures.above

pub store_at_fresh-outcome-requires-clause-fresh : goal.store_at_fresh-outcome-requires-clause-fresh
store_at_fresh-outcome-requires-clause-fresh c =
    let k : Known = c.args.turn.knows in
    let given = c.requires.given in
    let at : IsOvertakenAt k c.args.turn.found c.board.result.now.board given.0 given.1 given.2 given.3 c.args.room c.args.number c.args.ready =
    subst (λ (shelf : Shelved). IsOvertakenAt k c.args.turn.found shelf.board given.0 given.1 given.2 given.3 c.args.room c.args.number c.args.ready) (sym (c.board.ensures.value ∙ c.draw_in_turn-fresh.ensures.board)) given.4 in
    fresh_at k c.args.turn.found c.board.result.now.board given.0 given.1 given.2 given.3 c.args.room c.args.number c.args.ready c.draw_in_turn-fresh.result.value at c.draw_in_turn-fresh.ensures.fresh c.draw_in_turn-fresh.ensures.above

pub store_at_fresh-outcome-requires-clause-apart : goal.store_at_fresh-outcome-requires-clause-apart
store_at_fresh-outcome-requires-clause-apart c =
    let k : Known = c.args.turn.knows in
    let given = c.requires.given in
    let at : IsOvertakenAt k c.args.turn.found c.board.result.now.board given.0 given.1 given.2 given.3 c.args.room c.args.number c.args.ready =
    subst (λ (shelf : Shelved). IsOvertakenAt k c.args.turn.found shelf.board given.0 given.1 given.2 given.3 c.args.room c.args.number c.args.ready) (sym (c.board.ensures.value ∙ c.draw_in_turn-fresh.ensures.board)) given.4 in
    apart_at k c.args.turn.found c.board.result.now.board given.0 given.1 given.2 given.3 c.args.room c.args.number c.args.ready c.draw_in_turn-fresh.result.value at c.draw_in_turn-fresh.ensures.fresh c.draw_in_turn-fresh.ensures.above

pub store_at_fresh-outcome-requires-clause-out : goal.store_at_fresh-outcome-requires-clause-out
store_at_fresh-outcome-requires-clause-out c =
    let k : Known = c.args.turn.knows in
    let given = c.requires.given in
    let at : IsOvertakenAt k c.args.turn.found c.board.result.now.board given.0 given.1 given.2 given.3 c.args.room c.args.number c.args.ready =
    subst (λ (shelf : Shelved). IsOvertakenAt k c.args.turn.found shelf.board given.0 given.1 given.2 given.3 c.args.room c.args.number c.args.ready) (sym (c.board.ensures.value ∙ c.draw_in_turn-fresh.ensures.board)) given.4 in
    out_at k c.args.turn.found c.board.result.now.board given.0 given.1 given.2 given.3 c.args.room c.args.number c.args.ready c.draw_in_turn-fresh.result.value at c.draw_in_turn-fresh.ensures.fresh c.draw_in_turn-fresh.ensures.above

pub store_at_fresh-outcome-requires-clause-fits : goal.store_at_fresh-outcome-requires-clause-fits
store_at_fresh-outcome-requires-clause-fits c =
    let k : Known = c.args.turn.knows in
    let given = c.requires.given in
    let at : IsOvertakenAt k c.args.turn.found c.board.result.now.board given.0 given.1 given.2 given.3 c.args.room c.args.number c.args.ready =
    subst (λ (shelf : Shelved). IsOvertakenAt k c.args.turn.found shelf.board given.0 given.1 given.2 given.3 c.args.room c.args.number c.args.ready) (sym (c.board.ensures.value ∙ c.draw_in_turn-fresh.ensures.board)) given.4 in
    fits_at k c.args.turn.found c.board.result.now.board given.0 given.1 given.2 given.3 c.args.room c.args.number c.args.ready c.draw_in_turn-fresh.result.value at c.draw_in_turn-fresh.ensures.fresh c.draw_in_turn-fresh.ensures.above

pub store_at_fresh-outcome-requires-clause-ready : goal.store_at_fresh-outcome-requires-clause-ready
store_at_fresh-outcome-requires-clause-ready c =
    let k : Known = c.args.turn.knows in
    let given = c.requires.given in
    let at : IsOvertakenAt k c.args.turn.found c.board.result.now.board given.0 given.1 given.2 given.3 c.args.room c.args.number c.args.ready =
    subst (λ (shelf : Shelved). IsOvertakenAt k c.args.turn.found shelf.board given.0 given.1 given.2 given.3 c.args.room c.args.number c.args.ready) (sym (c.board.ensures.value ∙ c.draw_in_turn-fresh.ensures.board)) given.4 in
    ready_at k c.args.turn.found c.board.result.now.board given.0 given.1 given.2 given.3 c.args.room c.args.number c.args.ready c.draw_in_turn-fresh.result.value at c.draw_in_turn-fresh.ensures.fresh c.draw_in_turn-fresh.ensures.above

pub store_at_fresh-outcome-requires-clause-above : goal.store_at_fresh-outcome-requires-clause-above
store_at_fresh-outcome-requires-clause-above c =
    let k : Known = c.args.turn.knows in
    let given = c.requires.given in
    let at : IsOvertakenAt k c.args.turn.found c.board.result.now.board given.0 given.1 given.2 given.3 c.args.room c.args.number c.args.ready =
    subst (λ (shelf : Shelved). IsOvertakenAt k c.args.turn.found shelf.board given.0 given.1 given.2 given.3 c.args.room c.args.number c.args.ready) (sym (c.board.ensures.value ∙ c.draw_in_turn-fresh.ensures.board)) given.4 in
    base_at k c.args.turn.found c.board.result.now.board given.0 given.1 given.2 given.3 c.args.room c.args.number c.args.ready c.draw_in_turn-fresh.result.value at c.draw_in_turn-fresh.ensures.fresh c.draw_in_turn-fresh.ensures.above

pub leave-requires-clause-may : goal.leave-requires-clause-may
leave-requires-clause-may c =
    let k : Known = c.args.turn.knows in
    let given = c.requires.given in
    let at : IsOvertakenAt k c.args.turn.found c.board.result.now.board given.0 given.1 given.2 given.3 c.args.room c.args.number c.args.ready =
    subst (λ (shelf : Shelved). IsOvertakenAt k c.args.turn.found shelf.board given.0 given.1 given.2 given.3 c.args.room c.args.number c.args.ready) (sym (c.board.ensures.value ∙ c.draw_in_turn-fresh.ensures.board)) given.4 in
    let n : ℕ = c.draw_in_turn-fresh.result.value in
    let t : State = c.store_at_fresh-outcome.new.self.board in
    may_in (drawn_in_turn k n) c.draw_in_turn-fresh.new.turn.knows c.draw_in_turn-fresh.new.turn.found c.args.turn.found (board_of t) c.draw_in_turn-fresh.ensures.knows c.draw_in_turn-fresh.ensures.found
    (may_leave_at k c.args.turn.found c.board.result.now.board given.0 given.1 given.2 given.3 c.args.room c.args.number c.args.ready n at c.draw_in_turn-fresh.ensures.fresh c.draw_in_turn-fresh.ensures.above
    (record { commit = c.after.ensures.commit; swap = c.after.ensures.swap; void = c.after.ensures.void })
    (record { next = c.judged_writes.ensures.next; last = c.last_writes.ensures; same = c.boards.ensures.last })
    (record { book = c.storing.ensures.book; rises = c.storing.ensures.rises; released = c.storing.ensures.released })
    t c.store_at_fresh-outcome.ensures.stored c.store_at_fresh-outcome.ensures.book c.store_at_fresh-outcome.ensures.rooms c.store_at_fresh-outcome.ensures.checkpoints)

pub returns-clause-swapped : goal.returns-clause-swapped
returns-clause-swapped c = λ program strict by r judged given.
    let k : Known = c.args.turn.knows in
    let at : IsOvertakenAt k c.args.turn.found c.board.result.now.board program strict by r c.args.room c.args.number c.args.ready =
    subst (λ (shelf : Shelved). IsOvertakenAt k c.args.turn.found shelf.board program strict by r c.args.room c.args.number c.args.ready) (sym (c.board.ensures.value ∙ c.draw_in_turn-fresh.ensures.board)) given in
    let n : ℕ = c.draw_in_turn-fresh.result.value in
    let t : State = c.store_at_fresh-outcome.new.self.board in
    subst (λ (q : Known). IsCommitted k q judged program strict by r c.store_at_fresh-outcome.result)
    (knows_in (drawn_in_turn k n) c.draw_in_turn-fresh.new.turn.knows c.leave.result.knows c.draw_in_turn-fresh.new.turn.found c.args.turn.found (board_of t) c.draw_in_turn-fresh.ensures.knows c.draw_in_turn-fresh.ensures.found c.leave.ensures.knows)
    (committed_at k c.args.turn.found c.board.result.now.board program strict by r c.args.room c.args.number c.args.ready n at c.draw_in_turn-fresh.ensures.fresh c.draw_in_turn-fresh.ensures.above
    (record { commit = c.after.ensures.commit; swap = c.after.ensures.swap; void = c.after.ensures.void })
    (record { next = c.judged_writes.ensures.next; last = c.last_writes.ensures; same = c.boards.ensures.last })
    (record { book = c.storing.ensures.book; rises = c.storing.ensures.rises; released = c.storing.ensures.released })
    t c.store_at_fresh-outcome.ensures.stored c.store_at_fresh-outcome.ensures.book c.store_at_fresh-outcome.ensures.rooms c.store_at_fresh-outcome.ensures.checkpoints c.store_at_fresh-outcome.result c.store_at_fresh-outcome.ensures.answer judged)
