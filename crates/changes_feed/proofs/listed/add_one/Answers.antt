use Rattle.std.proofs.Common.{◌∙◌, sym, arith, ◌≡◌, Some}
use Rattle.sg_history.specs.History.{past}
use Rattle.log_index.specs.Places.{after_at}
use Rattle.channel_cache.proofs.Changing.{on_ok}
use Rattle.channel_cache.proofs.Past.{index_after, index_high}
use Rattle.changes_feed.proofs.Adding.{behind_last, last_behind, none_behind, seq_within, written_late}
use Rattle.changes_feed.proofs.listed.add_one.Goals as goal

pub add_document-requires-clause-stands : goal.add_document-requires-clause-stands
add_document-requires-clause-stands c =
    let entries = c.args.log.now.entries in
    let front = c.args.front in
    let low = seq_within entries front (index_high c.args.index.now entries front c.requires.index) c.args.seq c.requires.last in
    last_behind (past entries front) c.args.seq c.requires.last c.in-Some.document (sym (index_after c.args.index.now entries front c.requires.index c.args.seq low) ∙ sym c.after.ensures ∙ c.in-Some.is)

pub returns-in-None-clause-has : goal.returns-in-None-clause-has
returns-in-None-clause-has c =
    let entries = c.args.log.now.entries in
    let front = c.args.front in
    let low = seq_within entries front (index_high c.args.index.now entries front c.requires.index) c.args.seq c.requires.last in
    none_behind (past entries front) c.args.seq c.requires.last (sym (index_after c.args.index.now entries front c.requires.index c.args.seq low) ∙ sym c.after.ensures ∙ c.in-None.is)

pub returns-in-Some-clause-has : goal.returns-in-Some-clause-has
returns-in-Some-clause-has c =
    let entries = c.args.log.now.entries in
    let front = c.args.front in
    let low = seq_within entries front (index_high c.args.index.now entries front c.requires.index) c.args.seq c.requires.last in
    let is : after_at (past entries front) c.args.seq ≡ Some c.in-Some.document = sym (index_after c.args.index.now entries front c.requires.index c.args.seq low) ∙ sym c.after.ensures ∙ c.in-Some.is in
    on_ok c.add_document.result _ _
    (λ all doc d here last. all doc (sym is ∙ behind_last (past entries front) c.args.seq doc d here last ∙ sym here))
    c.add_document.ensures.has

pub returns-then-start-seq-clause-has : goal.returns-then-start-seq-clause-has
returns-then-start-seq-clause-has c = λ doc d here last.
    let entries = c.args.log.now.entries in
    written_late c.args.viewer.now c.args.start c.requires.low entries c.args.front (index_high c.args.index.now entries c.args.front c.requires.index) c.args.segment.now c.requires.segment doc d here
    (omega (arith, c.if-start-seq.true, last))
