use Rattle.std.proofs.Common.{◌<◌, ◌-◌, ◌∙◌, sym, arith}
use Rattle.sg_history.specs.History.{past}
use Rattle.channel_cache.proofs.Changing.{on_ok}
use Rattle.channel_cache.proofs.Past.{index_high, index_same_mark}
use Rattle.changes_feed.specs.inner.Amid.{taken}
use Rattle.changes_feed.proofs.Keeping.{part_same}
use Rattle.changes_feed.proofs.Reading.{winning_high}
use Rattle.changes_feed.proofs.Taking.{next_taken, other_mark, renewing}
use Rattle.changes_feed.proofs.segment.take_moved.Goals as goal

pub renew-requires-clause-known : goal.renew-requires-clause-known
renew-requires-clause-known c =
    let entries = c.args.log.now.entries in
    let at = c.args.at in
    let s = c.requires.stands in
    let pos : 0 < at = omega (arith, c.requires.low, c.requires.high) in
    let high = index_high c.args.index.now entries at c.requires.index in
    let marked = c.marked.ensures ∙ index_same_mark c.args.index.now entries at c.requires.index c.args.document.winning (winning_high c.args.index.now entries at c.requires.index s.0.doc c.args.document s.2) in (
      s.0.doc,
      taken (past entries (at - 1)) c.args.marks.now c.args.number,
      renewing entries at pos high c.args.marks.now c.requires.marks c.args.number s.0 s.1 c.marks.ensures.within c.args.document s.2 c.marked.result marked (sym c.is_mark.ensures ∙ c.if-is_mark.true)
          c.args.viewer.now c.args.start c.args.segment.now c.requires.known,
    )

pub returns-then-is_mark-clause-ok : goal.returns-then-is_mark-clause-ok
returns-then-is_mark-clause-ok c =
    let entries = c.args.log.now.entries in
    let at = c.args.at in
    let s = c.requires.stands in
    let pos : 0 < at = omega (arith, c.requires.low, c.requires.high) in
    let high = index_high c.args.index.now entries at c.requires.index in
    let marked = c.marked.ensures ∙ index_same_mark c.args.index.now entries at c.requires.index c.args.document.winning (winning_high c.args.index.now entries at c.requires.index s.0.doc c.args.document s.2) in
    let older = past entries (at - 1) in
    let yes = sym c.is_mark.ensures ∙ c.if-is_mark.true in
    on_ok c.renew.result _ _
    (λ all. part_same c.args.viewer.now c.args.start entries at pos high _ _ c.renew.new.segment
    (next_taken entries at pos high c.args.marks.now c.requires.marks c.args.number s.0 s.1 c.marks.ensures.within c.args.document s.2 c.marked.result marked yes)
    (all s.0.doc (taken older c.args.marks.now c.args.number)
    (renewing entries at pos high c.args.marks.now c.requires.marks c.args.number s.0 s.1 c.marks.ensures.within c.args.document s.2 c.marked.result marked yes c.args.viewer.now c.args.start c.args.segment.now c.requires.known)))
    c.renew.ensures.ok

pub returns-clause-ok : goal.returns-clause-ok
returns-clause-ok c =
    let entries = c.args.log.now.entries in
    let at = c.args.at in
    let s = c.requires.stands in
    let pos : 0 < at = omega (arith, c.requires.low, c.requires.high) in
    let high = index_high c.args.index.now entries at c.requires.index in
    let marked = c.marked.ensures ∙ index_same_mark c.args.index.now entries at c.requires.index c.args.document.winning (winning_high c.args.index.now entries at c.requires.index s.0.doc c.args.document s.2) in
    part_same c.args.viewer.now c.args.start entries at pos high _ _ c.args.segment.now
    (other_mark entries at pos high c.args.marks.now c.requires.marks c.args.number s.0 s.1 c.marks.ensures.within c.args.document s.2 c.marked.result marked (sym c.is_mark.ensures ∙ c.if-is_mark.false))
    c.requires.known
