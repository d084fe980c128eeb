use Rattle.std.proofs.Common.{◌≡◌, ◌∙◌, ap, arith, List}
use Rattle.grant_history.specs.inner.Changes.{DocumentFacts, all_times, facts_in_changes, given_before}
use Rattle.grant_history.specs.Ledger.{facts_in}
use Rattle.grant_history.proofs.Storing.{chained, recounted_at}
use Rattle.grant_history.proofs.Summing.{before_same}
use Rattle.grant_history.proofs.changes.exchange_each.Goals as goal

pub take_back-requires-clause-up_to : goal.take_back-requires-clause-up_to
take_back-requires-clause-up_to c = c.in_ok-give_each.ensures.ok.up_to c.args.at (omega arith) c.requires.up_to

pub returns-clause-store : goal.returns-clause-store
returns-clause-store c =
    let made = c.make_lists.new.lists in
    let before = c.args.lists.now in
    let changes = facts_in_changes c.args.changes.now.items in
    recounted_at c.args.store.now c.take_back.new.store c.args.at _ _
    (chained c.args.store.now c.give_each.new.store c.take_back.new.store c.args.at _ _ c.in_ok-give_each.ensures.ok c.take_back.ensures)
    (λ f.
    let left : all_times (facts_in_changes c.as_slice-2.result.now) f ≡ all_times (given_before (facts_in before) changes) f =
    ap (λ (l : List DocumentFacts). all_times l f)
    (ap facts_in_changes c.as_slice-2.ensures.value
    ∙ c.swap_each.ensures.changes
    ∙ ap (λ (cs : List DocumentFacts). given_before (facts_in made) cs) c.give_each.ensures.changes)
    ∙ before_same (facts_in made) (facts_in before) c.make_lists.ensures.lists changes f in
    omega (arith, left, c.in_ok-give_each.ensures.ok.counts f))
