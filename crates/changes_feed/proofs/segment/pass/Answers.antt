use Rattle.std.proofs.Common.{◌≡◌, ◌≤◌, ◌+◌, ◌-◌, ◌*◌, ◌∙◌, ap, sym, refl, subst, arith, ℕ, List}
use Rattle.sg_history.specs.declared.entries.Entry.{Entry}
use Rattle.sg_history.specs.History.{past}
use Rattle.channel_cache.specs.Reads.{passed}
use Rattle.channel_cache.specs.Stands.{IndexesTo}
use Rattle.channel_cache.proofs.Passed.{marks_none, passed_then}
use Rattle.channel_cache.proofs.Past.{index_lower}
use Rattle.feed_rows.specs.PassAt.{IsViewer}
use Rattle.changes_feed.specs.inner.Segment.{SegmentAt}
use Rattle.changes_feed.proofs.Keeping.{empty_known}
use Rattle.changes_feed.proofs.Viewing.{viewer_at}
use Rattle.changes_feed.proofs.segment.pass.Goals as goal

pub loop-place-init : goal.loop-place-init
loop-place-init c = record {
  low = omega arith;
  within = omega (arith, c.requires.high);
  known = empty_known c.args.viewer.now c.args.start c.args.log.now.entries c.requires.low c.empty-segment.result c.empty-segment.ensures.documents c.empty-segment.ensures.places;
  log = refl;
  reads = omega (arith, marks_none c.args.log.now.entries (c.args.start - 1));
}

pub take_entry-requires-clause-high : goal.take_entry-requires-clause-high
take_entry-requires-clause-high c = omega (arith, c.loop-place.invariant.low, c.requires.low)

pub take_entry-requires-clause-index : goal.take_entry-requires-clause-index
take_entry-requires-clause-index c =
    subst (λ (l : List Entry). IndexesTo c.args.index.now l (c.loop-place.place + 1)) (sym c.loop-place.invariant.log)
    (index_lower c.args.index.now c.args.log.now.entries c.args.front c.requires.index (c.loop-place.place + 1) (omega arith))

pub take_entry-requires-clause-viewer : goal.take_entry-requires-clause-viewer
take_entry-requires-clause-viewer c =
    subst (λ (l : List Entry). IsViewer c.args.viewer.now (past l (c.loop-place.place + 1))) (sym c.loop-place.invariant.log)
    (viewer_at c.args.viewer.now c.args.log.now.entries (c.loop-place.place + 1) c.args.front (omega arith) c.requires.within c.requires.viewer)

pub take_entry-requires-clause-known : goal.take_entry-requires-clause-known
take_entry-requires-clause-known c =
    let minus : c.loop-place.place ≡ c.loop-place.place + 1 - 1 = omega arith in
    subst (λ (l : List Entry). SegmentAt c.args.viewer.now c.args.start l (c.loop-place.place + 1 - 1) c.loop-place.segment) (sym c.loop-place.invariant.log)
    (subst (λ (n : ℕ). SegmentAt c.args.viewer.now c.args.start c.args.log.now.entries n c.loop-place.segment) minus c.loop-place.invariant.known)

pub loop-place-preserved : goal.loop-place-preserved
loop-place-preserved c =
    let entries = c.args.log.now.entries in
    let k = c.loop-place.place in
    let minus : k + 1 - 1 ≡ k = omega arith in
    let reads : passed c.loop-place.log.entries (k + 1 - 1) (k + 1) ≡ passed entries k (k + 1) =
    ap (λ (l : List Entry). passed l (k + 1 - 1) (k + 1)) c.loop-place.invariant.log ∙ ap (λ (n : ℕ). passed entries n (k + 1)) minus in
    record {
      low = omega (arith, c.loop-place.invariant.low);
      within = omega arith;
      known = subst (λ (l : List Entry). SegmentAt c.args.viewer.now c.args.start l (k + 1) c.take_entry.new.segment) c.loop-place.invariant.log c.in_ok-take_entry.ensures.ok;
      log = c.take_entry.ensures.log ∙ c.loop-place.invariant.log;
      reads = omega (arith, reads, c.take_entry.ensures.reads, c.loop-place.invariant.reads, passed_then entries (c.args.start - 1) k (k + 1) c.loop-place.invariant.low (omega arith));
    }

pub returns-clause-ok : goal.returns-clause-ok
returns-clause-ok c =
    let end : c.loop-place.place ≡ c.args.front = omega (arith, c.loop-place-test.false, c.loop-place.invariant.within) in
    subst (λ (n : ℕ). SegmentAt c.args.viewer.now c.args.start c.args.log.now.entries n c.loop-place.segment) end c.loop-place.invariant.known

pub returns-clause-reads : goal.returns-clause-reads
returns-clause-reads c =
    let end : c.loop-place.place ≡ c.args.front = omega (arith, c.loop-place-test.false, c.loop-place.invariant.within) in
    subst (λ (n : ℕ). c.loop-place.log.reads ≤ c.args.log.now.reads + 4 * passed c.args.log.now.entries (c.args.start - 1) n) end c.loop-place.invariant.reads

pub returns-in_err-take_entry-clause-reads : goal.returns-in_err-take_entry-clause-reads
returns-in_err-take_entry-clause-reads c =
    let entries = c.args.log.now.entries in
    let k = c.loop-place.place in
    let minus : k + 1 - 1 ≡ k = omega arith in
    let reads : passed c.loop-place.log.entries (k + 1 - 1) (k + 1) ≡ passed entries k (k + 1) =
    ap (λ (l : List Entry). passed l (k + 1 - 1) (k + 1)) c.loop-place.invariant.log ∙ ap (λ (n : ℕ). passed entries n (k + 1)) minus in
    let rest = passed_then entries (c.args.start - 1) k c.args.front c.loop-place.invariant.low (omega arith) in
    let next = passed_then entries k (k + 1) c.args.front (omega arith) (omega arith) in
    omega (arith, reads, c.take_entry.ensures.reads, c.loop-place.invariant.reads, rest, next)
