use Rattle.std.proofs.Common.{◌+◌, ◌∙◌, List, length, sym, ap, subst}
use Rattle.sg_history.specs.declared.book.Waiting.{Waiting}
use Rattle.sg_history.specs.declared.entries.Entry.{Entry}
use Rattle.sg_history.specs.Book.{waiting_at}
use Rattle.pending_front.specs.Pending.{AreBeyond}
use Rattle.pending_front.proofs.Releasing.{stays, moves_beyond}
use Rattle.pending_front.proofs.pending.Pending.move_next.Goals as goal

pub returns-in_default-clause-last : goal.returns-in_default-clause-last
returns-in_default-clause-last c = λ none.
    let log : List Entry = c.args.log.now.entries.list in
    stays log c.take.new.self.waiting
    (ap (λ (ws : List Waiting). waiting_at ws (length log + 1)) c.in_default.ensures.same
    ∙ ap (λ (es : List Entry). waiting_at c.args.self.now.waiting (length es + 1)) (sym c.as_slice.ensures) ∙ c.in_default.ensures.none)

pub returns-clause-beyond : goal.returns-clause-beyond
returns-clause-beyond c =
    let log : List Entry = c.args.log.now.entries.list in
    subst (λ (es : List Entry). AreBeyond es c.take.new.self.waiting) (sym c.put.ensures.list)
    (moves_beyond log c.args.self.now.waiting c.take.new.self.waiting (length c.as_slice.result.now + 1) c.in-Some.entry c.in-Some.ensures.some (ap (λ (es : List Entry). length es + 1) c.as_slice.ensures) c.in-Some.ensures.rises)
