use Rattle.std.proofs.Common.{◌≡◌, ◌+◌, ◌-◌, ◌∙◌, sym, refl, subst, arith, ℕ, List}
use Rattle.sg_history.specs.declared.entries.Entry.{Entry}
use Rattle.sg_history.specs.History.{past}
use Rattle.channel_cache.specs.inner.Asking.{IsFilledFrom}
use Rattle.channel_cache.specs.Stands.{IndexesTo}
use Rattle.channel_cache.proofs.Filled.{fill_end, fill_then}
use Rattle.channel_cache.proofs.filling.fill.Goals as goal

pub loop-place-init : goal.loop-place-init
loop-place-init c = record {
  within = omega arith;
  ok = fill_end (past c.args.log.now.entries c.args.to) 0 0 c.args.lists.now.entries (omega arith);
  cap = refl;
  log = refl;
  reads = omega arith;
}

pub fill_entry-requires-clause-index : goal.fill_entry-requires-clause-index
fill_entry-requires-clause-index c = subst (λ (l : List Entry). IndexesTo c.args.index.now l c.args.to) (sym c.loop-place.invariant.log) c.requires.index

pub loop-place-preserved : goal.loop-place-preserved
loop-place-preserved c =
    let k = c.loop-place.place in
    let one = c.loop-place.lists.entries in
    let two = c.fill_entry.new.lists.entries in
    let es = past c.args.log.now.entries c.args.to in
    let minus : k + 1 - 1 ≡ k = omega arith in
    record {
      within = omega arith;
      ok = fill_then es 0 k (k + 1) c.args.lists.now.entries one two (omega arith) (omega arith) c.loop-place.invariant.ok
          (subst (λ (n : ℕ). IsFilledFrom es n (k + 1) one two) minus
          (subst (λ (l : List Entry). IsFilledFrom (past l c.args.to) (k + 1 - 1) (k + 1) one two) c.loop-place.invariant.log c.in_ok-fill_entry.ensures.ok));
      cap = c.fill_entry.ensures.cap ∙ c.loop-place.invariant.cap;
      log = c.fill_entry.ensures.log ∙ c.loop-place.invariant.log;
      reads = omega (arith, c.fill_entry.ensures.reads, c.loop-place.invariant.reads);
    }

pub returns-clause-ok : goal.returns-clause-ok
returns-clause-ok c =
    let end : c.loop-place.place ≡ c.args.to = omega (arith, c.loop-place-test.false, c.loop-place.invariant.within) in
    subst (λ (n : ℕ). IsFilledFrom (past c.args.log.now.entries c.args.to) 0 n c.args.lists.now.entries c.loop-place.lists.entries) end c.loop-place.invariant.ok
