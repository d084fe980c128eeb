use Rattle.std.proofs.Common.{◌≡◌, ◌∙◌, ℕ, List, Option, Some, subst, sym, ap, map, true}
use Rattle.std.specs.Prelude.{IfSome}
use Rattle.std.proofs.lemmas.Option.{IfSome_then}
use Rattle.sg_history.specs.declared.book.Waiting.{Waiting}
use Rattle.sg_history.specs.declared.entries.Entry.{Entry}
use Rattle.sg_history.specs.declared.entries.Entry.TheVariants as kinds
use Rattle.sg_history.specs.Book.{Book, book_with, first_write}
use Rattle.sg_history.specs.Current.{Sequenced}
use Rattle.sg_history.specs.History.{Extends}
use Rattle.sg_history.specs.World.{put_waiting}
use Rattle.pending_front.specs.Storing.{MayStore}
use Rattle.rev_tree.specs.Documents.{recorded, sequence_of, last_in, tree_in}
use Rattle.rev_tree.specs.Writes.{tree_of}
use Rattle.doc_board.specs.Candidates.{ExtendsTree}
use Rattle.doc_board.specs.Kept.{has_place}
use Rattle.doc_board.specs.Rooms.{is_outstanding}
use Rattle.doc_board.specs.State.{State, top_of}
use Rattle.doc_board.specs.Steps.{with_entry}
use Rattle.doc_board.specs.Storage.{book_with_unused, waiting_with_unused}
use Rattle.doc_board.proofs.Documents.{Documents}
use Rattle.doc_board.proofs.OnStorage.{holds_in, book_is, released_on}
use Rattle.doc_board.proofs.OutstandingRooms.{outstanding_has_place}
use Rattle.doc_board.proofs.board.Board.store_write.Goals as goal

pub give_up-requires-clause-spent : goal.give_up-requires-clause-spent
give_up-requires-clause-spent c =
    holds_in (λ log ws. IfSome c.args.spent (λ n. MayStore log ws n)) c.args.self.now c.end.new.self (c.end.ensures.log ∙ ap (λ (s : State). s.log) c.self.view_is) (c.end.ensures.waiting ∙ ap (λ (s : State). s.pending) c.self.view_is)
    (IfSome_then c.args.spent c.requires.spent (λ n may. may.0))

pub put_write-requires-clause-number : goal.put_write-requires-clause-number
put_write-requires-clause-number c =
    c.give_up.ensures.others c.args.number (IfSome_then c.args.spent c.requires.spent (λ n may. may.1))
    (holds_in (λ log ws. MayStore log ws c.args.number) c.args.self.now c.end.new.self (c.end.ensures.log ∙ ap (λ (s : State). s.log) c.self.view_is) (c.end.ensures.waiting ∙ ap (λ (s : State). s.pending) c.self.view_is) c.requires.number)

pub put_write-requires-clause-document : goal.put_write-requires-clause-document
put_write-requires-clause-document c =
    subst (λ (ds : Documents). has_place ds (Some c.args.entry.doc) ≡ true) (sym (c.give_up.ensures.documents ∙ c.end.ensures.documents))
    (subst (λ (o : Option (List ℕ)). has_place c.self.inside.storage.documents o ≡ true) c.requires.doc
    (outstanding_has_place c.self.inside.storage.documents c.args.room.made_for c.self.inside.storage.rooms c.self.invariant.0.standing.out
    (subst (λ (s : State). is_outstanding s.rooms c.args.room.made_for ≡ true) (sym c.self.view_is) c.requires.out)))

pub put_write-requires-clause-base : goal.put_write-requires-clause-base
put_write-requires-clause-base c =
    holds_in (λ log ws. c.args.base ≡ last_in (book_with log ws) (top_of log ws) c.args.entry.doc) c.args.self.now c.end.new.self (c.end.ensures.log ∙ ap (λ (s : State). s.log) c.self.view_is) (c.end.ensures.waiting ∙ ap (λ (s : State). s.pending) c.self.view_is) c.requires.base
    ∙ ap (λ (ws : List Sequenced). sequence_of (first_write ws)) (sym (c.give_up.ensures.writes c.args.entry.doc))

pub put_write-requires-clause-extends : goal.put_write-requires-clause-extends
put_write-requires-clause-extends c =
    subst (λ (ws : List Sequenced). ExtendsTree (tree_of (map (λ written. recorded written.write) ws)) c.args.entry c.args.tree) (sym (c.give_up.ensures.writes c.args.entry.doc))
    (holds_in (λ log ws. ExtendsTree (tree_in (book_with log ws) (top_of log ws) c.args.entry.doc) c.args.entry c.args.tree) c.args.self.now c.end.new.self (c.end.ensures.log ∙ ap (λ (s : State). s.log) c.self.view_is) (c.end.ensures.waiting ∙ ap (λ (s : State). s.pending) c.self.view_is) c.requires.extends)

pub release-requires : goal.release-requires
release-requires c = c.put_write.ensures.stands

pub invariant_of-self : goal.invariant_of-self
invariant_of-self c = (
  c.release.ensures.board,
  c.extended.ensures c.self.inside.storage.log.entries.list c.release.new.self.log.entries.list c.self.invariant.1
      (subst (λ (es : List Entry). Extends es c.release.new.self.log.entries.list) (c.put_write.ensures.log ∙ c.give_up.ensures.log ∙ c.end.ensures.log) c.release.ensures.extends),
  c.release.ensures.limit ∙ c.put_write.ensures.limit ∙ c.give_up.ensures.limit ∙ c.end.ensures.limit ∙ c.self.invariant.2,
)

pub returns-clause-stored : goal.returns-clause-stored
returns-clause-stored c =
    let put : Waiting = record { number = c.args.number; entry = (kinds.Write c.args.entry) } in
    released_on c.args.self.now.log (put_waiting put (waiting_with_unused c.args.spent c.args.self.now.pending)) c.put_write.new.self c.release.new.self (c.put_write.ensures.log ∙ c.give_up.ensures.log ∙ c.end.ensures.log ∙ ap (λ (s : State). s.log) c.self.view_is)
    (c.put_write.ensures.waiting ∙ ap (λ (ws : List Waiting). put_waiting put ws) (c.give_up.ensures.waiting ∙ ap (λ (ws : List Waiting). waiting_with_unused c.args.spent ws) (c.end.ensures.waiting ∙ ap (λ (s : State). s.pending) c.self.view_is))) c.release.ensures.released

pub returns-clause-book : goal.returns-clause-book
returns-clause-book c =
    c.release.ensures.book ∙ c.put_write.ensures.book
    ∙ ap (λ (b : Book). with_entry c.args.number (kinds.Write c.args.entry) b) (c.give_up.ensures.book ∙ ap (λ (b : Book). book_with_unused c.args.spent b) (book_is c.args.self.now c.end.new.self (c.end.ensures.log ∙ ap (λ (s : State). s.log) c.self.view_is) (c.end.ensures.waiting ∙ ap (λ (s : State). s.pending) c.self.view_is)))
