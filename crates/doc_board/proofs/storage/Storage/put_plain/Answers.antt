use Rattle.std.proofs.Common.{◌≡◌, List, nat_eq, refl, subst, sym, arith}
use Rattle.std.specs.HashMap.{get, spare}
use Rattle.sg_history.specs.declared.book.Waiting.{Waiting}
use Rattle.sg_history.specs.Book.{book_with, writes_up_to}
use Rattle.pending_front.specs.Storing.{MayStore}
use Rattle.doc_board.specs.State.{top_of}
use Rattle.doc_board.specs.Storage.{writes_in}
use Rattle.doc_board.proofs.Steps.{waits_plain, may_still, writes_still}
use Rattle.doc_board.proofs.NewBooks.{one_put}
use Rattle.doc_board.proofs.storage.Storage.put_plain.Goals as goal

pub put-requires-clause-place : goal.put-requires-clause-place
put-requires-clause-place c = omega (arith, c.requires.place.room_waiting)

pub returns-clause-stands : goal.returns-clause-stands
returns-clause-stands c = λ more it.
    let s = c.args.self.now in
    waits_plain c.storing.ensures.book c.storing.ensures.beyond c.storing.ensures.free s.log.entries s.pending c.args.number c.requires.number
    c.put.new.self s.documents (get nat_eq s.bases) (spare s.bases) s.rooms s.stored more c.args.entry c.requires.entry c.requires.plain c.put.ensures.waiting c.put.ensures.spare it

pub returns-clause-book : goal.returns-clause-book
returns-clause-book c =
    let s = c.args.self.now in
    one_put c.storing.ensures.book s.log.entries.list s.log.entries.list s.pending.waiting c.put.new.self.waiting c.put.new.self.waiting c.args.number c.args.entry c.requires.number c.put.ensures.waiting refl

pub returns-clause-writes : goal.returns-clause-writes
returns-clause-writes c = λ doc.
    let s = c.args.self.now in
    let log = s.log.entries.list in
    subst (λ (ws : List Waiting). writes_up_to (book_with log ws) (top_of log ws) doc ≡ writes_in s doc) (sym c.put.ensures.waiting)
    (writes_still c.storing.ensures.book log s.pending.waiting c.args.number c.requires.number c.args.entry c.requires.plain.0 doc)

pub returns-clause-others : goal.returns-clause-others
returns-clause-others c = λ other apart may.
    let s = c.args.self.now in
    let log = s.log.entries.list in
    subst (λ (ws : List Waiting). MayStore log ws other) (sym c.put.ensures.waiting)
    (may_still c.storing.ensures.book log s.pending.waiting c.args.number c.requires.number c.args.entry c.requires.plain.0 other apart may)
