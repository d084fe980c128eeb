use Rattle.std.proofs.Common.{◌≡◌, ◌-◌, ◌∙◌, ap, sym, List, Option, Some, None}
use Rattle.sg_history.specs.declared.entries.Entry.{Entry}
use Rattle.sg_history.specs.History.{past}
use Rattle.log_index.specs.declared.documents.Document.{Document}
use Rattle.log_index.specs.Places.{document_at}
use Rattle.channel_cache.specs.inner.Moves.{move_by}
use Rattle.channel_cache.proofs.Brought.{document_within}
use Rattle.channel_cache.proofs.Past.{index_up_to}
use Rattle.channel_cache.proofs.moved.moved_by.Goals as goal

pub moved_at-requires-clause-low : goal.moved_at-requires-clause-low
moved_at-requires-clause-low c =
    let here : document_at (past c.args.log.now.entries c.args.at) c.args.mark.now.doc ≡ Some c.in-Some.document =
    ap (λ (es : List Entry). document_at es c.args.mark.now.doc) (sym (index_up_to c.args.index.now c.args.log.now.entries c.args.at c.requires.index)) ∙ sym c.document_up_to.ensures ∙ c.in-Some.is in
    (document_within c.args.index.now c.args.log.now.entries c.args.at c.requires.low c.requires.index c.requires.other c.args.mark.now.doc c.in-Some.document here).0

pub moved_at-requires-clause-high : goal.moved_at-requires-clause-high
moved_at-requires-clause-high c =
    let here : document_at (past c.args.log.now.entries c.args.at) c.args.mark.now.doc ≡ Some c.in-Some.document =
    ap (λ (es : List Entry). document_at es c.args.mark.now.doc) (sym (index_up_to c.args.index.now c.args.log.now.entries c.args.at c.requires.index)) ∙ sym c.document_up_to.ensures ∙ c.in-Some.is in
    (document_within c.args.index.now c.args.log.now.entries c.args.at c.requires.low c.requires.index c.requires.other c.args.mark.now.doc c.in-Some.document here).1

pub returns-in-None-clause-moved : goal.returns-in-None-clause-moved
returns-in-None-clause-moved c =
    let here : document_at (past c.args.log.now.entries c.args.at) c.args.mark.now.doc ≡ None =
    ap (λ (es : List Entry). document_at es c.args.mark.now.doc) (sym (index_up_to c.args.index.now c.args.log.now.entries c.args.at c.requires.index)) ∙ sym c.document_up_to.ensures ∙ c.in-None.is in
    sym (ap (λ (o : Option Document). move_by (past c.args.log.now.entries (c.args.at - 1)) (past c.args.log.now.entries c.args.at) c.args.mark.now c.args.number o) here)

pub returns-in-Some-clause-moved : goal.returns-in-Some-clause-moved
returns-in-Some-clause-moved c =
    let here : document_at (past c.args.log.now.entries c.args.at) c.args.mark.now.doc ≡ Some c.in-Some.document =
    ap (λ (es : List Entry). document_at es c.args.mark.now.doc) (sym (index_up_to c.args.index.now c.args.log.now.entries c.args.at c.requires.index)) ∙ sym c.document_up_to.ensures ∙ c.in-Some.is in
    c.moved_at.ensures.moved
    ∙ sym (ap (λ (o : Option Document). move_by (past c.args.log.now.entries (c.args.at - 1)) (past c.args.log.now.entries c.args.at) c.args.mark.now c.args.number o) here)
