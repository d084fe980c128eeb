use Rattle.std.proofs.Common.{◌≡◌, ◌<◌, ◌∙◌, ℕ, List, refl, sym, ap, subst, arith}
use Rattle.sg_history.specs.Board.{BoardState, After}
use Rattle.pending_front.specs.Storing.{MayStore}
use Rattle.seq_gate.specs.Counts.{times}
use Rattle.seq_gate.specs.Passes.{Finds}
use Rattle.seq_gate.specs.declared.known.Known.{Known}
use Rattle.doc_board.specs.Boards.{board_of}
use Rattle.doc_board.specs.declared.candidate.Candidate.TheVariants as candidate
use Rattle.doc_board.specs.State.{State}
use Rattle.write_path.specs.Shelf.{Shelved, shelf_state}
use Rattle.write_path.specs.inner.Turns.{IsStoreTurn}
use Rattle.write_path.proofs.Sharing.{knows_in, may_in}
use Rattle.write_path.proofs.Turning.{may_leave_stored, may_store, room_out, store_turn, times_one}
use Rattle.write_path.proofs.storing.store_in_turn.Goals as goal

pub store_plain-sequence-requires-clause-number : goal.store_plain-sequence-requires-clause-number
store_plain-sequence-requires-clause-number g c =
    let s : State = c.board.result.now.board in
    let here : c.enter-turn.result.found ≡ board_of s = sym c.enter-turn.ensures.board ∙ ap (λ (shelf : Shelved). shelf_state shelf) (sym c.board.ensures.value) in
    let finds : Finds c.args.pass.knows (board_of s) = subst (λ (b : BoardState). Finds c.args.pass.knows b) here c.enter-turn.ensures.finds in
    may_store c.args.pass.knows s c.args.number.value finds (subst (λ (ns : List ℕ). 0 < times c.args.number.value ns) (sym c.requires.held) (times_one c.args.number.value))

pub store_plain-sequence-requires-clause-out : goal.store_plain-sequence-requires-clause-out
store_plain-sequence-requires-clause-out g c =
    let s : State = c.board.result.now.board in
    let here : c.enter-turn.result.found ≡ board_of s = sym c.enter-turn.ensures.board ∙ ap (λ (shelf : Shelved). shelf_state shelf) (sym c.board.ensures.value) in
    room_out c.args.pass.knows s c.args.room.made_for (subst (λ (b : BoardState). Finds c.args.pass.knows b) here c.enter-turn.ensures.finds) c.requires.rooms

pub leave-requires-clause-may : goal.leave-requires-clause-may
leave-requires-clause-may g c =
    let p : Known = c.args.pass.knows in
    let s : State = c.board.result.now.board in
    let t : State = c.store_plain-sequence.new.self.board in
    let number : ℕ = c.args.number.value in
    let here : c.enter-turn.result.found ≡ board_of s = sym c.enter-turn.ensures.board ∙ ap (λ (shelf : Shelved). shelf_state shelf) (sym c.board.ensures.value) in
    let finds : Finds p (board_of s) = subst (λ (b : BoardState). Finds p b) here c.enter-turn.ensures.finds in
    let may : MayStore s.log s.pending number = may_store p s number finds (subst (λ (ns : List ℕ). 0 < times number ns) (sym c.requires.held) (times_one number)) in
    let stored = c.store_plain-sequence.ensures in
    let next : After (board_of s) (board_of t) =
    c.after.ensures.commit s t c.args.room.made_for number (candidate.Plain c.args.entry) may (room_out p s c.args.room.made_for finds c.requires.rooms)
    (record { doc = c.requires.fits; bytes = omega arith }) (c.requires.entry, c.requires.plain) refl stored.entries stored.stored stored.book stored.rooms stored.checkpoints in
    may_in p c.enter-turn.result.knows c.enter-turn.result.found (board_of s) (board_of t) c.enter-turn.ensures.knows here
    (may_leave_stored (record { book = c.storing.ensures.book; rises = c.storing.ensures.rises; released = c.storing.ensures.released }) p s t c.args.room.made_for number c.args.entry finds c.requires.held c.requires.rooms next stored.stored stored.book stored.rooms)

pub returns-clause-stored : goal.returns-clause-stored
returns-clause-stored g c =
    let p : Known = c.args.pass.knows in
    let s : State = c.board.result.now.board in
    let t : State = c.store_plain-sequence.new.self.board in
    let number : ℕ = c.args.number.value in
    let here : c.enter-turn.result.found ≡ board_of s = sym c.enter-turn.ensures.board ∙ ap (λ (shelf : Shelved). shelf_state shelf) (sym c.board.ensures.value) in
    let finds : Finds p (board_of s) = subst (λ (b : BoardState). Finds p b) here c.enter-turn.ensures.finds in
    let may : MayStore s.log s.pending number = may_store p s number finds (subst (λ (ns : List ℕ). 0 < times number ns) (sym c.requires.held) (times_one number)) in
    let stored = c.store_plain-sequence.ensures in
    let next : After (board_of s) (board_of t) =
    c.after.ensures.commit s t c.args.room.made_for number (candidate.Plain c.args.entry) may (room_out p s c.args.room.made_for finds c.requires.rooms)
    (record { doc = c.requires.fits; bytes = omega arith }) (c.requires.entry, c.requires.plain) refl stored.entries stored.stored stored.book stored.rooms stored.checkpoints in (
      s,
      t,
      subst (λ (q : Known). IsStoreTurn p q s t number c.args.entry) (knows_in p c.enter-turn.result.knows c.leave.result.knows c.enter-turn.result.found (board_of s) (board_of t) c.enter-turn.ensures.knows here c.leave.ensures.knows)
          (store_turn (record { book = c.storing.ensures.book; rises = c.storing.ensures.rises; released = c.storing.ensures.released }) p s t c.args.room.made_for number c.args.entry finds c.requires.held c.requires.rooms next stored.stored stored.book stored.rooms c.requires.used),
    )
