use Rattle.std.proofs.Common.{◌≡◌, ◌≤◌, ◌+◌, ◌-◌, ◌∙◌, ap, sym, refl, subst, arith, ℕ, List}
use Rattle.sg_history.specs.declared.entries.Entry.{Entry}
use Rattle.channel_cache.specs.inner.Forward.{IsForward}
use Rattle.channel_cache.specs.Reads.{passed}
use Rattle.channel_cache.specs.Stands.{IndexesTo}
use Rattle.channel_cache.proofs.Brought.{forward_same, forward_then}
use Rattle.channel_cache.proofs.Passed.{marks_none, passed_then}
use Rattle.channel_cache.proofs.Past.{index_lower}
use Rattle.channel_cache.proofs.forward.bring_forward.Goals as goal

pub loop-place-init : goal.loop-place-init
loop-place-init c = record {
  low = omega arith;
  within = c.requires.order;
  ok = forward_same c.args.log.now.entries c.args.from c.args.lists.now.entries;
  cap = refl;
  log = refl;
  reads = omega (arith, marks_none c.args.log.now.entries c.args.from);
}

pub take_entry-requires-clause-index : goal.take_entry-requires-clause-index
take_entry-requires-clause-index c =
    subst (λ (l : List Entry). IndexesTo c.args.index.now l (c.loop-place.place + 1)) (sym c.loop-place.invariant.log)
    (index_lower c.args.index.now c.args.log.now.entries c.args.to c.requires.index (c.loop-place.place + 1) (omega arith))

pub loop-place-preserved : goal.loop-place-preserved
loop-place-preserved c =
    let entries = c.args.log.now.entries in
    let k = c.loop-place.place in
    let one = c.loop-place.lists.entries in
    let two = c.take_entry.new.lists.entries in
    let minus : k + 1 - 1 ≡ k = omega arith in
    let reads : passed c.loop-place.log.entries (k + 1 - 1) (k + 1) ≡ passed entries k (k + 1) =
    ap (λ (l : List Entry). passed l (k + 1 - 1) (k + 1)) c.loop-place.invariant.log ∙ ap (λ (n : ℕ). passed entries n (k + 1)) minus in
    record {
      low = omega (arith, c.loop-place.invariant.low);
      within = omega arith;
      ok = forward_then entries c.args.from k (k + 1) c.args.lists.now.entries one two c.loop-place.invariant.ok
          (subst (λ (n : ℕ). IsForward entries n (k + 1) one two) minus
          (subst (λ (l : List Entry). IsForward l (k + 1 - 1) (k + 1) one two) c.loop-place.invariant.log c.in_ok-take_entry.ensures.ok));
      cap = c.take_entry.ensures.cap ∙ c.loop-place.invariant.cap;
      log = c.take_entry.ensures.log ∙ c.loop-place.invariant.log;
      reads = omega (arith, reads, c.take_entry.ensures.reads, c.loop-place.invariant.reads, passed_then entries c.args.from k (k + 1) c.loop-place.invariant.low (omega arith));
    }

pub returns-clause-ok : goal.returns-clause-ok
returns-clause-ok c =
    let end : c.loop-place.place ≡ c.args.to = omega (arith, c.loop-place-test.false, c.loop-place.invariant.within) in
    subst (λ (n : ℕ). IsForward c.args.log.now.entries c.args.from n c.args.lists.now.entries c.loop-place.lists.entries) end c.loop-place.invariant.ok

pub returns-clause-reads : goal.returns-clause-reads
returns-clause-reads c =
    let end : c.loop-place.place ≡ c.args.to = omega (arith, c.loop-place-test.false, c.loop-place.invariant.within) in
    subst (λ (n : ℕ). c.loop-place.log.reads ≤ c.args.log.now.reads + passed c.args.log.now.entries c.args.from n) end c.loop-place.invariant.reads

pub returns-in_err-take_entry-clause-reads : goal.returns-in_err-take_entry-clause-reads
returns-in_err-take_entry-clause-reads c =
    let entries = c.args.log.now.entries in
    let k = c.loop-place.place in
    let minus : k + 1 - 1 ≡ k = omega arith in
    let reads : passed c.loop-place.log.entries (k + 1 - 1) (k + 1) ≡ passed entries k (k + 1) =
    ap (λ (l : List Entry). passed l (k + 1 - 1) (k + 1)) c.loop-place.invariant.log ∙ ap (λ (n : ℕ). passed entries n (k + 1)) minus in
    let rest = passed_then entries c.args.from k c.args.to c.loop-place.invariant.low (omega arith) in
    let next = passed_then entries k (k + 1) c.args.to (omega arith) (omega arith) in
    omega (arith, reads, c.take_entry.ensures.reads, c.loop-place.invariant.reads, rest, next)
