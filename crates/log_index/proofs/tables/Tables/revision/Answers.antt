use Rattle.std.proofs.Common.{◌≡◌, ◌∙◌, sym, ap, ℕ, List, Option, Some, None}
use Rattle.std.proofs.lemmas.Result.{IfOk-weaker}
use Rattle.sg_history.specs.declared.entries.Entry.{Entry}
use Rattle.sg_history.specs.Current.{Sequenced}
use Rattle.log_index.specs.Places.{seq_alone, revision_seq, first_seq, document_at}
use Rattle.log_index.specs.Representation.{HasPlaces, seq_in}
use Rattle.log_index.proofs.Firsts.{first_of, first_at, nowhere, somewhere, no_revision}
use Rattle.log_index.proofs.tables.Tables.revision.Goals as goal

pub returns-in-None : goal.returns-in-None
returns-in-None c = λ es is.
    let none : document_at es c.args.doc.now ≡ None = sym (is.documents c.args.doc.now) ∙ sym c.document_of.ensures ∙ c.in-None.is in
    sym (ap (λ (w : Option Sequenced). seq_alone w) (no_revision es c.args.doc.now c.args.rev.now (nowhere es c.args.doc.now none)))

pub returns-in-Some : goal.returns-in-Some
returns-in-Some c =
    IfOk-weaker c.seq_of.result
    (λ found. found ≡ seq_in c.args.self.now.revisions c.in-Some.document.first c.args.rev.now)
    (λ found. (es : List Entry) → HasPlaces c.args.self.now es → found ≡ revision_seq es c.args.doc.now c.args.rev.now)
    (λ found found_is es is.
    let there : document_at es c.args.doc.now ≡ Some c.in-Some.document = sym (is.documents c.args.doc.now) ∙ sym c.document_of.ensures ∙ c.in-Some.is in
    let first : c.in-Some.document.first ≡ first_seq es c.args.doc.now = sym (ap first_of there) ∙ first_at es c.args.doc.now in
    found_is
    ∙ ap (λ (n : ℕ). seq_in c.args.self.now.revisions n c.args.rev.now) first
    ∙ is.revisions c.args.doc.now c.args.rev.now (somewhere es c.args.doc.now c.in-Some.document there))
    c.seq_of.ensures
