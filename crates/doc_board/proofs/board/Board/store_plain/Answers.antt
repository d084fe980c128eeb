use Rattle.std.proofs.Common.{◌∙◌, List, subst, ap}
use Rattle.std.specs.Prelude.{IfSome}
use Rattle.std.proofs.lemmas.Option.{IfSome_then}
use Rattle.sg_history.specs.declared.book.Waiting.{Waiting}
use Rattle.sg_history.specs.declared.entries.Entry.{Entry}
use Rattle.sg_history.specs.Book.{Book}
use Rattle.sg_history.specs.History.{Extends}
use Rattle.sg_history.specs.World.{put_waiting}
use Rattle.pending_front.specs.Storing.{MayStore}
use Rattle.doc_board.specs.State.{State}
use Rattle.doc_board.specs.Steps.{with_entry}
use Rattle.doc_board.specs.Storage.{book_with_unused, waiting_with_unused}
use Rattle.doc_board.proofs.OnStorage.{holds_in, book_is, released_on}
use Rattle.doc_board.proofs.board.Board.store_plain.Goals as goal

pub give_up-requires-clause-spent : goal.give_up-requires-clause-spent
give_up-requires-clause-spent c =
    holds_in (λ log ws. IfSome c.args.spent (λ n. MayStore log ws n)) c.args.self.now c.end.new.self (c.end.ensures.log ∙ ap (λ (s : State). s.log) c.self.view_is) (c.end.ensures.waiting ∙ ap (λ (s : State). s.pending) c.self.view_is)
    (IfSome_then c.args.spent c.requires.spent (λ n may. may.0))

pub put_plain-requires-clause-number : goal.put_plain-requires-clause-number
put_plain-requires-clause-number c =
    c.give_up.ensures.others c.args.number (IfSome_then c.args.spent c.requires.spent (λ n may. may.1))
    (holds_in (λ log ws. MayStore log ws c.args.number) c.args.self.now c.end.new.self (c.end.ensures.log ∙ ap (λ (s : State). s.log) c.self.view_is) (c.end.ensures.waiting ∙ ap (λ (s : State). s.pending) c.self.view_is) c.requires.number)

pub release-requires : goal.release-requires
release-requires c = c.put_plain.ensures.stands 0 c.give_up.ensures.stands

pub invariant_of-self : goal.invariant_of-self
invariant_of-self c = (
  c.release.ensures.board,
  c.extended.ensures c.self.inside.storage.log.entries.list c.release.new.self.log.entries.list c.self.invariant.1
      (subst (λ (es : List Entry). Extends es c.release.new.self.log.entries.list) (c.put_plain.ensures.log ∙ c.give_up.ensures.log ∙ c.end.ensures.log) c.release.ensures.extends),
  c.release.ensures.limit ∙ c.put_plain.ensures.limit ∙ c.give_up.ensures.limit ∙ c.end.ensures.limit ∙ c.self.invariant.2,
)

pub returns-clause-stored : goal.returns-clause-stored
returns-clause-stored c =
    let put : Waiting = record { number = c.args.number; entry = c.args.entry } in
    released_on c.args.self.now.log (put_waiting put (waiting_with_unused c.args.spent c.args.self.now.pending)) c.put_plain.new.self c.release.new.self (c.put_plain.ensures.log ∙ c.give_up.ensures.log ∙ c.end.ensures.log ∙ ap (λ (s : State). s.log) c.self.view_is)
    (c.put_plain.ensures.waiting ∙ ap (λ (ws : List Waiting). put_waiting put ws) (c.give_up.ensures.waiting ∙ ap (λ (ws : List Waiting). waiting_with_unused c.args.spent ws) (c.end.ensures.waiting ∙ ap (λ (s : State). s.pending) c.self.view_is))) c.release.ensures.released

pub returns-clause-book : goal.returns-clause-book
returns-clause-book c =
    c.release.ensures.book ∙ c.put_plain.ensures.book
    ∙ ap (λ (b : Book). with_entry c.args.number c.args.entry b) (c.give_up.ensures.book ∙ ap (λ (b : Book). book_with_unused c.args.spent b) (book_is c.args.self.now c.end.new.self (c.end.ensures.log ∙ ap (λ (s : State). s.log) c.self.view_is) (c.end.ensures.waiting ∙ ap (λ (s : State). s.pending) c.self.view_is)))
