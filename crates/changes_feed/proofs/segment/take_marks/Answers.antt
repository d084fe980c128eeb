use Rattle.std.proofs.Common.{◌<◌, ◌+◌, ◌-◌, ◌∙◌, sym, ap, refl, subst, arith, List}
use Rattle.std.specs.Prelude.{option_map}
use Rattle.sg_history.specs.declared.entries.Entry.{Entry}
use Rattle.sg_history.specs.History.{SyncEntry, past}
use Rattle.channel_cache.specs.inner.Forward.{replaced_at}
use Rattle.channel_cache.specs.Stands.{IndexesTo}
use Rattle.channel_cache.proofs.Past.{index_high}
use Rattle.feed_rows.specs.PassAt.{IsViewer}
use Rattle.changes_feed.specs.inner.Amid.{PartAt, taken}
use Rattle.changes_feed.proofs.Keeping.{begun, ended, part_same}
use Rattle.changes_feed.proofs.Taking.{all_taken, none_taken}
use Rattle.changes_feed.proofs.segment.take_marks.Goals as goal

pub loop-i-init : goal.loop-i-init
loop-i-init c =
    let entries = c.args.log.now.entries in
    let at = c.args.at in
    let pos : 0 < at = omega (arith, c.requires.low, c.requires.high) in
    let high = index_high c.args.index.now entries at c.requires.index in
    record {
      known = part_same c.args.viewer.now c.args.start entries at pos high _ _ c.args.segment.now (none_taken entries at pos high c.args.marks.now c.requires.marks)
          (begun c.args.viewer.now c.args.start entries at pos high c.args.segment.now c.requires.known);
      within = omega arith;
      log = refl;
      reads = omega arith;
    }

pub take_mark-requires-clause-index : goal.take_mark-requires-clause-index
take_mark-requires-clause-index c = subst (λ (l : List Entry). IndexesTo c.args.index.now l c.args.at) (sym c.loop-i.invariant.log) c.requires.index

pub take_mark-requires-clause-viewer : goal.take_mark-requires-clause-viewer
take_mark-requires-clause-viewer c = subst (λ (l : List Entry). IsViewer c.args.viewer.now (past l c.args.at)) (sym c.loop-i.invariant.log) c.requires.viewer

pub take_mark-requires-clause-marks : goal.take_mark-requires-clause-marks
take_mark-requires-clause-marks c = ap (λ (l : List Entry). option_map (λ (s : SyncEntry). s.marks) (replaced_at l c.args.at)) c.loop-i.invariant.log ∙ c.requires.marks

pub take_mark-requires-clause-known : goal.take_mark-requires-clause-known
take_mark-requires-clause-known c =
    subst (λ (l : List Entry). PartAt c.args.viewer.now c.args.start l c.args.at (taken (past l (c.args.at - 1)) c.args.marks.now c.loop-i.i) c.loop-i.segment) (sym c.loop-i.invariant.log) c.loop-i.invariant.known

pub loop-i-preserved : goal.loop-i-preserved
loop-i-preserved c = record {
  known = subst (λ (l : List Entry). PartAt c.args.viewer.now c.args.start l c.args.at (taken (past l (c.args.at - 1)) c.args.marks.now (c.loop-i.i + 1)) c.take_mark.new.segment) c.loop-i.invariant.log c.in_ok-take_mark.ensures.ok;
  within = omega arith;
  log = c.take_mark.ensures.log ∙ c.loop-i.invariant.log;
  reads = omega (arith, c.take_mark.ensures.reads, c.loop-i.invariant.reads);
}

pub returns-clause-ok : goal.returns-clause-ok
returns-clause-ok c =
    let entries = c.args.log.now.entries in
    let at = c.args.at in
    let pos : 0 < at = omega (arith, c.requires.low, c.requires.high) in
    let high = index_high c.args.index.now entries at c.requires.index in
    ended c.args.viewer.now c.args.start entries at pos high c.known.ensures.same _ c.loop-i.segment c.loop-i.invariant.known
    (all_taken entries at pos high c.args.marks.now c.requires.marks c.loop-i.i (omega (arith, c.loop-i-test.false)))

pub returns-clause-reads : goal.returns-clause-reads
returns-clause-reads c = omega (arith, c.loop-i.invariant.reads, c.loop-i.invariant.within)

pub returns-in_err-take_mark-clause-reads : goal.returns-in_err-take_mark-clause-reads
returns-in_err-take_mark-clause-reads c = omega (arith, c.take_mark.ensures.reads, c.loop-i.invariant.reads)
