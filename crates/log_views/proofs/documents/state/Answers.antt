use Rattle.std.proofs.Common.{◌∙◌, ◌≡◌, sym, ap, ℕ, List, length, reverse, Option, Some}
use Rattle.std.specs.Option.{option_copied}
use Rattle.sg_history.specs.declared.entries.Entry.{Entry}
use Rattle.log_index.specs.declared.marks.Marked.{Marked}
use Rattle.log_index.specs.Marks.{effects_by, marked_up_to}
use Rattle.log_index.specs.Places.{document_at}
use Rattle.log_views.specs.States.{effects_in, since_by}
use Rattle.log_views.proofs.Stated.{no_write, some_current, some_since, some_winner}
use Rattle.log_views.proofs.documents.state.Goals as goal

pub returns-in_err-winner-clause-current : goal.returns-in_err-winner-clause-current
returns-in_err-winner-clause-current c =
    let at : document_at (reverse c.args.entries.now) c.args.doc.now ≡ Some c.in_ok-document.document = sym (c.document.ensures ∙ ap (λ es. document_at es c.args.doc.now) c.requires) ∙ c.in_ok-document.was in
    absurd (no_write c.args.entries.now c.args.doc.now c.in_ok-document.document at (sym c.write_at.ensures ∙ ap option_copied c.in_err-winner.was))

pub returns-in_err-winner-clause-winner : goal.returns-in_err-winner-clause-winner
returns-in_err-winner-clause-winner c =
    let at : document_at (reverse c.args.entries.now) c.args.doc.now ≡ Some c.in_ok-document.document = sym (c.document.ensures ∙ ap (λ es. document_at es c.args.doc.now) c.requires) ∙ c.in_ok-document.was in
    absurd (no_write c.args.entries.now c.args.doc.now c.in_ok-document.document at (sym c.write_at.ensures ∙ ap option_copied c.in_err-winner.was))

pub returns-in_err-winner-clause-since : goal.returns-in_err-winner-clause-since
returns-in_err-winner-clause-since c =
    let at : document_at (reverse c.args.entries.now) c.args.doc.now ≡ Some c.in_ok-document.document = sym (c.document.ensures ∙ ap (λ es. document_at es c.args.doc.now) c.requires) ∙ c.in_ok-document.was in
    absurd (no_write c.args.entries.now c.args.doc.now c.in_ok-document.document at (sym c.write_at.ensures ∙ ap option_copied c.in_err-winner.was))

pub returns-clause-current : goal.returns-clause-current
returns-clause-current c =
    let at : document_at (reverse c.args.entries.now) c.args.doc.now ≡ Some c.in_ok-document.document = sym (c.document.ensures ∙ ap (λ es. document_at es c.args.doc.now) c.requires) ∙ c.in_ok-document.was in
    let marked : c.marked-marked.result ≡ marked_up_to (reverse c.args.entries.now) c.in_ok-document.document.winning (length (reverse c.args.entries.now)) =
    c.marked-marked.ensures
    ∙ ap (λ (n : ℕ). marked_up_to c.args.index.now c.in_ok-document.document.winning n) c.count.ensures
    ∙ ap (λ (es : List Entry). marked_up_to es c.in_ok-document.document.winning (length es)) c.requires in
    some_current c.args.entries.now c.args.doc.now c.in_ok-document.document at c.in_ok-winner.winner.now (sym c.write_at.ensures ∙ ap option_copied c.in_ok-winner.was)
    c.marks.ensures.effects (effects_in c.effects_of.result)
    (c.effects_of.ensures.effects ∙ ap (λ (o : Option Marked). effects_by (reverse c.args.entries.now) o c.in_ok-winner.winner.now) marked)

pub returns-clause-winner : goal.returns-clause-winner
returns-clause-winner c =
    let at : document_at (reverse c.args.entries.now) c.args.doc.now ≡ Some c.in_ok-document.document = sym (c.document.ensures ∙ ap (λ es. document_at es c.args.doc.now) c.requires) ∙ c.in_ok-document.was in
    some_winner c.args.entries.now c.args.doc.now c.in_ok-document.document at c.in_ok-winner.winner.now (sym c.write_at.ensures ∙ ap option_copied c.in_ok-winner.was)

pub returns-clause-since : goal.returns-clause-since
returns-clause-since c =
    let at : document_at (reverse c.args.entries.now) c.args.doc.now ≡ Some c.in_ok-document.document = sym (c.document.ensures ∙ ap (λ es. document_at es c.args.doc.now) c.requires) ∙ c.in_ok-document.was in
    let marked : c.marked-marked.result ≡ marked_up_to (reverse c.args.entries.now) c.in_ok-document.document.winning (length (reverse c.args.entries.now)) =
    c.marked-marked.ensures
    ∙ ap (λ (n : ℕ). marked_up_to c.args.index.now c.in_ok-document.document.winning n) c.count.ensures
    ∙ ap (λ (es : List Entry). marked_up_to es c.in_ok-document.document.winning (length es)) c.requires in
    some_since c.args.entries.now c.args.doc.now c.in_ok-document.document at c.in_ok-winner.winner.now (sym c.write_at.ensures ∙ ap option_copied c.in_ok-winner.was)
    c.effects_of.result.since
    (c.effects_of.ensures.since ∙ ap (λ (o : Option Marked). since_by o c.in_ok-document.document.winning) marked)
