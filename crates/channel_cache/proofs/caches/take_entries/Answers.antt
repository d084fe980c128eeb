use Rattle.std.proofs.Common.{◌≡◌, ◌+◌, ◌-◌, ◌∙◌, ap, sym, refl, arith, ℕ, List, length}
use Rattle.sg_history.specs.declared.entries.Entry.{Entry}
use Rattle.sg_history.specs.History.{past}
use Rattle.channel_cache.proofs.Past.{past_count}
use Rattle.channel_cache.proofs.caches.take_entries.Goals as goal

pub loop-place-init : goal.loop-place-init
loop-place-init c =
    let n = c.requires.index in
    let count : length c.args.index.now ≡ n.0 = ap length n.3 ∙ past_count c.args.log.now.entries n.0 n.2 in
    record {
      low = omega (arith, c.count-place.ensures);
      high = omega (arith, c.count-place.ensures, count, n.2);
      ends = omega (arith, c.count-place.ensures);
      index = n.3 ∙ ap (past c.args.log.now.entries) (sym (c.count-place.ensures ∙ count));
      log = refl;
      reads = omega arith;
    }

pub take_next-requires-clause-high : goal.take_next-requires-clause-high
take_next-requires-clause-high c = omega (arith, c.requires.within, ap length c.loop-place.invariant.log)

pub take_next-requires-clause-index : goal.take_next-requires-clause-index
take_next-requires-clause-index c =
    let minus : ◌≡◌ {A = ℕ} c.loop-place.place (c.loop-place.place + 1 - 1) = omega arith in
    c.loop-place.invariant.index ∙ ap (λ (l : List Entry). past l c.loop-place.place) (sym c.loop-place.invariant.log) ∙ ap (past c.loop-place.log.entries) minus

pub loop-place-preserved : goal.loop-place-preserved
loop-place-preserved c = record {
  low = omega (arith, c.loop-place.invariant.low);
  high = omega (arith, c.requires.within);
  ends = omega arith;
  index = c.in_ok-take_next.ensures.ok ∙ ap (λ (l : List Entry). past l (c.loop-place.place + 1)) c.loop-place.invariant.log;
  log = c.take_next.ensures.log ∙ c.loop-place.invariant.log;
  reads = omega (arith, c.take_next.ensures.reads, c.loop-place.invariant.reads, c.loop-place.invariant.low);
}

pub returns-clause-ok : goal.returns-clause-ok
returns-clause-ok c = (c.loop-place.place, omega (arith, c.loop-place-test.false), c.loop-place.invariant.high, c.loop-place.invariant.index)

pub returns-clause-kept : goal.returns-clause-kept
returns-clause-kept c = λ m n.
    let count : length c.args.index.now ≡ n.0 = ap length n.3 ∙ past_count c.args.log.now.entries n.0 n.2 in
    (c.loop-place.place, omega (arith, n.1, count, c.loop-place.invariant.low), c.loop-place.invariant.high, c.loop-place.invariant.index)

pub returns-in_err-take_next-clause-kept : goal.returns-in_err-take_next-clause-kept
returns-in_err-take_next-clause-kept c = λ m n.
    let count : length c.args.index.now ≡ n.0 = ap length n.3 ∙ past_count c.args.log.now.entries n.0 n.2 in
    (c.loop-place.place, omega (arith, n.1, count, c.loop-place.invariant.low), c.loop-place.invariant.high, c.in_err-take_next.ensures.err ∙ c.loop-place.invariant.index)

pub returns-clause-reads : goal.returns-clause-reads
returns-clause-reads c = omega (arith, c.loop-place.invariant.reads, c.loop-place.invariant.ends)
