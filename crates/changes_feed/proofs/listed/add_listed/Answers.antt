use Rattle.std.proofs.Common.{◌∙◌, sym, ap, refl, subst, arith, List, get_or}
use Rattle.std.specs.Prelude.{nat_eq}
use Rattle.std.proofs.lemmas.Bool.{eq-eqb, false≢true}
use Rattle.std.proofs.lemmas.List.Folds.{list_any_at}
use Rattle.sg_history.specs.declared.entries.Entry.{Entry}
use Rattle.sg_history.specs.History.{past}
use Rattle.log_index.specs.Places.{document_at}
use Rattle.channel_cache.specs.Stands.{IndexesTo}
use Rattle.changes_feed.specs.inner.Amid.{HasLast}
use Rattle.changes_feed.specs.inner.Segment.{SegmentAt}
use Rattle.changes_feed.proofs.Adding.{all_have, last_listed, whole_have}
use Rattle.changes_feed.proofs.listed.add_listed.Goals as goal

pub loop-seq-init : goal.loop-seq-init
loop-seq-init c = record {
  within = omega arith;
  known = c.requires.segment;
  has = λ doc d here none. absurd (false≢true none);
  log = refl;
  reads = omega arith;
}

pub add_one-requires-clause-index : goal.add_one-requires-clause-index
add_one-requires-clause-index c = subst (λ (l : List Entry). IndexesTo c.args.index.now l c.args.front) (sym c.loop-seq.invariant.log) c.requires.index

pub add_one-requires-clause-last : goal.add_one-requires-clause-last
add_one-requires-clause-last c =
    let xs = c.args.sequences.now in
    let x = get_or xs c.loop-seq.seq-index 0 in
    subst (λ (l : List Entry). HasLast (past l c.args.front) x) (sym c.loop-seq.invariant.log)
    (last_listed (past c.args.log.now.entries c.args.front) c.requires.listed.0 xs c.requires.listed.1 x (list_any_at (nat_eq x) xs c.loop-seq.seq-index 0 (omega arith) (eq-eqb x x refl)))

pub add_one-requires-clause-segment : goal.add_one-requires-clause-segment
add_one-requires-clause-segment c =
    subst (λ (l : List Entry). SegmentAt c.args.viewer.now c.args.start l c.args.front c.loop-seq.segment) (sym c.loop-seq.invariant.log) c.loop-seq.invariant.known

pub loop-seq-preserved : goal.loop-seq-preserved
loop-seq-preserved c =
    let xs = c.args.sequences.now in
    let i = c.loop-seq.seq-index in
    record {
      within = omega arith;
      known = subst (λ (l : List Entry). SegmentAt c.args.viewer.now c.args.start l c.args.front c.add_one.new.segment) c.loop-seq.invariant.log c.in_ok-add_one.ensures.ok;
      has = λ doc d here is.
          all_have _ xs i d.last (omega arith) is
          (λ before. c.in_ok-add_one.ensures.more doc (c.loop-seq.invariant.has doc d here before))
          (λ own. c.in_ok-add_one.ensures.has doc d (ap (λ (l : List Entry). document_at (past l c.args.front) doc) c.loop-seq.invariant.log ∙ here) own);
      log = c.add_one.ensures.log ∙ c.loop-seq.invariant.log;
      reads = omega (arith, c.add_one.ensures.reads, c.loop-seq.invariant.reads);
    }

pub returns-clause-has : goal.returns-clause-has
returns-clause-has c = λ doc d here is.
    c.loop-seq.invariant.has doc d here (whole_have c.args.sequences.now c.loop-seq.seq-index d.last (omega (arith, c.loop-seq-test.false)) is)

pub returns-clause-reads : goal.returns-clause-reads
returns-clause-reads c = omega (arith, c.loop-seq.invariant.reads, c.loop-seq.invariant.within)

pub returns-in_err-add_one-clause-reads : goal.returns-in_err-add_one-clause-reads
returns-in_err-add_one-clause-reads c = omega (arith, c.add_one.ensures.reads, c.loop-seq.invariant.reads)
