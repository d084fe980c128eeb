use Rattle.std.proofs.Common.{◌≡◌, ◌∙◌, ℕ, List, Option, IfOk, length, reverse, ap, sym, subst}
use Rattle.std.specs.Option.{option_copied}
use Rattle.std.proofs.lemmas.Result.{IfOk-weaker}
use Rattle.sg_history.specs.declared.entries.Entry.{Entry}
use Rattle.sg_history.specs.Book.{book_with, writes_up_to}
use Rattle.rev_tree.specs.declared.tree.Node.{Node}
use Rattle.sync_meaning.specs.declared.state.Context.{Context}
use Rattle.doc_board.specs.declared.document.Document.{Document}
use Rattle.doc_board.specs.Answers.{IsStep, proposer_exists}
use Rattle.doc_board.specs.Contexts.{IsContext}
use Rattle.doc_board.specs.Kept.{kept_last, kept_nodes}
use Rattle.doc_board.specs.State.{State, top_of, last_on, tree_on}
use Rattle.doc_board.proofs.Bodies.{old_document}
use Rattle.doc_board.proofs.Places.{last_by, nodes_by}
use Rattle.doc_board.proofs.Tops.{none_above_top}
use Rattle.doc_board.proofs.board.Board.snapshot_in.Goals as goal

pub base_of-requires-clause-last : goal.base_of-requires-clause-last
base_of-requires-clause-last c =
    let log = c.self.inside.storage.log.entries.list in
    let waiting = c.self.inside.storage.pending.waiting in
    let doc = c.args.revision.now.doc in
    c.last_of-last.ensures
    ∙ ap (λ (o : Option Document). kept_last o) c.document_of-document.ensures
    ∙ last_by (writes_up_to (book_with log waiting) (top_of log waiting)) c.self.inside.storage.documents doc (c.self.invariant.0.standing.kept.documents (top_of log waiting) (none_above_top log waiting))
    ∙ ap (λ (s : State). last_on s doc) c.self.view_is

pub returns-clause-last : goal.returns-clause-last
returns-clause-last c =
    let log = c.self.inside.storage.log.entries.list in
    let waiting = c.self.inside.storage.pending.waiting in
    let doc = c.args.revision.now.doc in
    let is = ap (λ (o : Option Document). kept_last o) c.document_of-document.ensures
    ∙ last_by (writes_up_to (book_with log waiting) (top_of log waiting)) c.self.inside.storage.documents doc (c.self.invariant.0.standing.kept.documents (top_of log waiting) (none_above_top log waiting))
    ∙ ap (λ (s : State). last_on s doc) c.self.view_is in
    subst (λ (n : ℕ). IfOk c.snapshot_of.result (λ s. s.last ≡ n)) is c.snapshot_of.ensures.last

pub returns-clause-step : goal.returns-clause-step
returns-clause-step c =
    let log = c.self.inside.storage.log.entries.list in
    let waiting = c.self.inside.storage.pending.waiting in
    let doc = c.args.revision.now.doc in
    let is = ap (λ (o : Option Document). kept_nodes o) c.document_of-document.ensures
    ∙ nodes_by (writes_up_to (book_with log waiting) (top_of log waiting)) c.self.inside.storage.documents doc (c.self.invariant.0.standing.kept.documents (top_of log waiting) (none_above_top log waiting))
    ∙ ap (λ (s : State). tree_on s doc) c.self.view_is in
    subst (λ (t : List Node). IfOk c.snapshot_of.result (λ s. IsStep t c.args.revision.now c.args.strict s.step)) is c.snapshot_of.ensures.step

pub returns-clause-old_document : goal.returns-clause-old_document
returns-clause-old_document c = old_document c.snapshot_of.result c.in_ok-base.base c.in_ok-base.ensures.document c.snapshot_of.ensures.old

pub returns-clause-user : goal.returns-clause-user
returns-clause-user c =
    let log = c.self.inside.storage.log.entries.list in
    let same : log ≡ c.args.self.now.log = ap (λ (s : State). s.log) c.self.view_is in
    let end : c.self.inside.grants.applied ≡ length log = ap (λ (s : State). s.known) c.self.view_is ∙ c.requires.known ∙ sym (ap (λ (es : List Entry). length es) same) in
    let here : c.exists_at_end-exists.result ≡ proposer_exists (reverse c.args.self.now.log) (option_copied c.args.by) = c.exists_at_end-exists.ensures log c.self.invariant.1 end ∙ ap (λ (es : List Entry). proposer_exists (reverse es) (option_copied c.args.by)) same in
    IfOk-weaker c.snapshot_of.result _ _ (λ s it. it ∙ here) c.snapshot_of.ensures.user

pub returns-clause-context : goal.returns-clause-context
returns-clause-context c =
    let log = c.self.inside.storage.log.entries.list in
    let same : log ≡ c.args.self.now.log = ap (λ (s : State). s.log) c.self.view_is in
    let end : c.self.inside.grants.applied ≡ length log = ap (λ (s : State). s.known) c.self.view_is ∙ c.requires.known ∙ sym (ap (λ (es : List Entry). length es) same) in
    let here : IsContext (reverse c.args.self.now.log) (option_copied c.args.by) c.in_ok-context.context = subst (λ (es : List Entry). IsContext (reverse es) (option_copied c.args.by) c.in_ok-context.context) same (c.in_ok-context.ensures log c.self.invariant.1 end) in
    IfOk-weaker c.snapshot_of.result _ _ (λ s it. subst (λ (x : Context). IsContext (reverse c.args.self.now.log) (option_copied c.args.by) x) (sym it) here) c.snapshot_of.ensures.context
