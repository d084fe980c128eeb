use Rattle.std.proofs.Common.{ℕ, ◌+◌, ◌∙◌, sym, ap, arith, List, [], ◌∷◌, ◌++◌, take, if◌then◌else◌}
use Rattle.std.proofs.lemmas.List.{take_more, take_all}
use Rattle.grant_history.specs.declared.facts.Fact.{Fact}
use Rattle.grant_history.specs.Facts.{times, same_fact}
use Rattle.grant_history.specs.Store.{count_at}
use Rattle.grant_history.proofs.Storing.{chained, recounted_at, more_step, same_store}
use Rattle.grant_tracks.proofs.Tracked.{any_err}
use Rattle.grant_history.proofs.Steps.{times_append}
use Rattle.grant_history.proofs.store.Store.give_all.Goals as goal

pub loop-i-preserved : goal.loop-i-preserved
loop-i-preserved c =
    let i = c.loop-i.i in
    let x = c.index-facts-i.result in
    let given = c.in-Ok.ensures.ok in
    recounted_at c.args.self.now c.give.new.self c.args.at _ _ (chained c.args.self.now c.loop-i.self c.give.new.self c.args.at _ _ c.loop-i.invariant given)
    (λ f. ap (λ (n : ℕ). if same_fact x f then n + 1 else n) (c.loop-i.invariant.counts f)
    ∙ more_step (same_fact x f) (count_at c.args.self.now f) (times (take i c.args.facts.now) f)
    ∙ ap (λ (n : ℕ). count_at c.args.self.now f + n) (sym (times_append (take i c.args.facts.now) (x ∷ []) f)
    ∙ ap (λ (l : List Fact). times l f) (ap (λ (y : Fact). take i c.args.facts.now ++ y ∷ []) c.index-facts-i.is ∙ sym (take_more c.args.facts.now i x c.loop-i-test.true))))

pub give-requires : goal.give-requires
give-requires c = c.loop-i.invariant.up_to c.args.at (omega arith) c.requires

pub take_all-requires : goal.take_all-requires
take_all-requires c =
    let kept = c.in-Err.ensures.err in
    record {
      given = λ f. omega (arith, kept.counts f, c.loop-i.invariant.counts f);
      up_to = kept.up_to c.args.at (omega arith) (c.loop-i.invariant.up_to c.args.at (omega arith) c.requires);
    }

pub returns-in-Err-clause-err : goal.returns-in-Err-clause-err
returns-in-Err-clause-err c =
    let kept = c.in-Err.ensures.err in
    recounted_at c.args.self.now c.take_all.new.self c.args.at _ _
    (chained c.args.self.now c.give.new.self c.take_all.new.self c.args.at _ _ (chained c.args.self.now c.loop-i.self c.give.new.self c.args.at _ _ c.loop-i.invariant kept) c.take_all.ensures)
    (λ f. omega (arith, kept.counts f, c.loop-i.invariant.counts f))

pub returns-in_err-places-clause-err : goal.returns-in_err-places-clause-err
returns-in_err-places-clause-err c = any_err c.from_residual.result _ (same_store c.args.self.now c.args.at)

pub loop-i-init : goal.loop-i-init
loop-i-init c = recounted_at c.args.self.now c.args.self.now c.args.at _ _ (same_store c.args.self.now c.args.at) (λ f. omega arith)

pub returns-clause-ok : goal.returns-clause-ok
returns-clause-ok c =
    recounted_at c.args.self.now c.loop-i.self c.args.at _ _ c.loop-i.invariant
    (λ f. ap (λ (l : List Fact). count_at c.args.self.now f + times l f) (take_all c.loop-i.i c.args.facts.now (omega (arith, c.loop-i-test.false))))
