use Rattle.std.proofs.Common.{◌≡◌, ◌<◌, ◌∙◌, sym, ap, arith, List, Some, None}
use Rattle.std.specs.Prelude.{slice_get}
use Rattle.sg_history.specs.declared.entries.Entry.{Entry}
use Rattle.sg_history.specs.History.{past}
use Rattle.log_index.specs.Places.{document_at}
use Rattle.channel_cache.proofs.Past.{index_high, index_up_to}
use Rattle.changes_feed.proofs.Keeping.{part_same}
use Rattle.changes_feed.proofs.Taking.{mark_got, no_document, skipped}
use Rattle.changes_feed.proofs.segment.take_mark.Goals as goal

pub take_moved-requires-clause-stands : goal.take_moved-requires-clause-stands
take_moved-requires-clause-stands c =
    let entries = c.args.log.now.entries in (
      c.index-marks-number.result,
      mark_got c.args.marks.now c.args.number c.index-marks-number.result c.requires.number c.index-marks-number.is,
      sym c.in-Some.is ∙ c.document_up_to.ensures ∙ ap (λ (es : List Entry). document_at es c.index-marks-number.result.doc) (index_up_to c.args.index.now entries c.args.at c.requires.index),
    )

pub returns-in-None-clause-ok : goal.returns-in-None-clause-ok
returns-in-None-clause-ok c =
    let entries = c.args.log.now.entries in
    let at = c.args.at in
    let pos : 0 < at = omega (arith, c.requires.low, c.requires.high) in
    let high = index_high c.args.index.now entries at c.requires.index in
    let mark = c.index-marks-number.result in
    let here : slice_get c.args.marks.now c.args.number ≡ Some mark = mark_got c.args.marks.now c.args.number mark c.requires.number c.index-marks-number.is in
    let none : document_at (past entries at) mark.doc ≡ None =
    ap (λ (es : List Entry). document_at es mark.doc) (sym (index_up_to c.args.index.now entries at c.requires.index)) ∙ sym c.document_up_to.ensures ∙ c.in-None.is in
    part_same c.args.viewer.now c.args.start entries at pos high _ _ c.args.segment.now
    (skipped entries at pos high c.args.marks.now c.requires.marks c.args.number mark here (no_document entries at pos high c.args.marks.now c.requires.marks c.args.number mark here none))
    c.requires.known
