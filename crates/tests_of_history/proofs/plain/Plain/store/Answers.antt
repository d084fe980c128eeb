use Rattle.std.proofs.Common.{◌∙◌, ◌≤◌, List, length, sym, ap, subst}
use Rattle.sg_history.specs.declared.book.Waiting.{Waiting}
use Rattle.sg_history.specs.Book.{book_with}
use Rattle.sg_history.specs.World.{release}
use Rattle.pending_front.specs.Pending.{AreBeyond}
use Rattle.tests_of_history.proofs.Stores.{none_beyond, put_fits, stores}
use Rattle.tests_of_history.proofs.plain.Plain.store.Goals as goal

pub release-requires-clause-room : goal.release-requires-clause-room
release-requires-clause-room c =
    let board = c.args.self.now in
    subst (λ (ws : List Waiting). length ws ≤ board.log.entries.spare) (sym c.put.ensures.waiting)
    (put_fits board.log.entries.list board.pending.waiting c.args.number c.args.entry c.requires.can board.log.entries.spare c.requires.room)

pub release-requires-clause-beyond : goal.release-requires-clause-beyond
release-requires-clause-beyond c =
    let log = c.args.self.now.log.entries.list in
    let waiting = c.args.self.now.pending.waiting in
    subst (λ (ws : List Waiting). AreBeyond log ws) (sym c.put.ensures.waiting)
    (c.storing.ensures.beyond log waiting c.args.number c.args.entry c.requires.can.free (none_beyond log waiting c.args.number c.args.entry c.requires.can))

pub returns : goal.returns
returns c =
    let log = c.args.self.now.log.entries.list in
    let waiting = c.args.self.now.pending.waiting in
    let can = c.requires.can in
    stores log waiting c.args.number c.args.entry can
    (λ k. c.storing.ensures.book log waiting c.args.number c.args.entry k can.free)
    (c.storing.ensures.later log waiting c.args.number c.args.entry can.free can.above)
    _ _
    (c.release.ensures.log ∙ ap (λ (ws : List Waiting). (release log ws).log) c.put.ensures.waiting)
    (c.release.ensures.waiting ∙ ap (λ (ws : List Waiting). (release log ws).pending) c.put.ensures.waiting)
    (c.release.ensures.book ∙ ap (λ (ws : List Waiting). book_with log ws) c.put.ensures.waiting)
