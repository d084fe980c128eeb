use Rattle.std.proofs.Common.{◌≡◌, ◌∙◌, ◌<◌, ap, refl, arith, take, List, length}
use Rattle.grant_history.specs.inner.Changes.{DocumentFacts, all_times, facts_in_change, facts_in_changes}
use Rattle.grant_history.proofs.Changing.{count_same, first_changes, next_change, set_same, times_next}
use Rattle.grant_history.proofs.Storing.{chained, recounted_at, same_store}
use Rattle.grant_history.proofs.changes.give_each.Goals as goal

pub give-requires : goal.give-requires
give-requires c = c.loop-i.invariant.dated.up_to c.args.at (omega arith) c.requires

pub loop-i-init : goal.loop-i-init
loop-i-init c = record {
  dated = recounted_at c.args.store.now c.args.store.now c.args.at _ _ (same_store c.args.store.now c.args.at) (λ f. omega arith);
  changes = refl;
}

pub take_back-requires : goal.take_back-requires
take_back-requires c =
    let all = facts_in_changes c.args.changes.now.items in
    let xs = c.loop-i.changes.items in
    let i = c.loop-i.i in
    let within : i < length xs = omega (arith, count_same xs all c.loop-i.invariant.changes, count_same c.args.changes.now.items all refl) in
    let kept = c.in-Err.ensures.err in
    let plain : facts_in_changes c.as_slice.result.now ≡ all =
    ap facts_in_changes c.as_slice.ensures.value
    ∙ set_same xs i c.index_mut.result.now c.give.new.change within c.index_mut.ensures.value c.give.ensures.change
    ∙ c.loop-i.invariant.changes in
    let first : facts_in_changes (take i c.as_slice.result.now) ≡ take i all = first_changes c.as_slice.result.now i all plain in
    record {
      given = λ f. omega (arith, ap (λ (l : List DocumentFacts). all_times l f) first, kept.counts f, c.loop-i.invariant.dated.counts f);
      up_to = kept.up_to c.args.at (omega arith) (c.loop-i.invariant.dated.up_to c.args.at (omega arith) c.requires);
    }

pub returns-in-Err-clause-err : goal.returns-in-Err-clause-err
returns-in-Err-clause-err c =
    let all = facts_in_changes c.args.changes.now.items in
    let xs = c.loop-i.changes.items in
    let i = c.loop-i.i in
    let within : i < length xs = omega (arith, count_same xs all c.loop-i.invariant.changes, count_same c.args.changes.now.items all refl) in
    let kept = c.in-Err.ensures.err in
    let plain : facts_in_changes c.as_slice.result.now ≡ all =
    ap facts_in_changes c.as_slice.ensures.value
    ∙ set_same xs i c.index_mut.result.now c.give.new.change within c.index_mut.ensures.value c.give.ensures.change
    ∙ c.loop-i.invariant.changes in
    let first : facts_in_changes (take i c.as_slice.result.now) ≡ take i all = first_changes c.as_slice.result.now i all plain in
    recounted_at c.args.store.now c.take_back.new.store c.args.at _ _
    (chained c.args.store.now c.give.new.store c.take_back.new.store c.args.at _ _ (chained c.args.store.now c.loop-i.store c.give.new.store c.args.at _ _ c.loop-i.invariant.dated kept) c.take_back.ensures)
    (λ f. omega (arith, ap (λ (l : List DocumentFacts). all_times l f) first, kept.counts f, c.loop-i.invariant.dated.counts f))

pub returns-in-Err-clause-changes : goal.returns-in-Err-clause-changes
returns-in-Err-clause-changes c =
    let all = facts_in_changes c.args.changes.now.items in
    let xs = c.loop-i.changes.items in
    let i = c.loop-i.i in
    let within : i < length xs = omega (arith, count_same xs all c.loop-i.invariant.changes, count_same c.args.changes.now.items all refl) in
    set_same xs i c.index_mut.result.now c.give.new.change within c.index_mut.ensures.value c.give.ensures.change ∙ c.loop-i.invariant.changes

pub loop-i-preserved : goal.loop-i-preserved
loop-i-preserved c =
    let all = facts_in_changes c.args.changes.now.items in
    let xs = c.loop-i.changes.items in
    let i = c.loop-i.i in
    let x = c.index_mut.result.now in
    let within : i < length xs = omega (arith, count_same xs all c.loop-i.invariant.changes, count_same c.args.changes.now.items all refl) in
    record {
      dated = recounted_at c.args.store.now c.give.new.store c.args.at _ _ (chained c.args.store.now c.loop-i.store c.give.new.store c.args.at _ _ c.loop-i.invariant.dated c.in-Ok.ensures.ok)
          (λ f. omega (arith, c.loop-i.invariant.dated.counts f, times_next all i (facts_in_change x) f (next_change xs i x all c.loop-i.invariant.changes within c.index_mut.ensures.value)));
      changes = set_same xs i x c.give.new.change within c.index_mut.ensures.value c.give.ensures.change ∙ c.loop-i.invariant.changes;
    }
