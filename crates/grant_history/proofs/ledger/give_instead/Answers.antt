use Rattle.std.proofs.Common.{◌≡◌, ◌∙◌, ap, List, arith}
use Rattle.grant_history.specs.declared.facts.Fact.{Fact}
use Rattle.grant_history.specs.Facts.{times}
use Rattle.grant_history.specs.declared.ledger.SourceFacts.{SourceFacts}
use Rattle.grant_history.proofs.Storing.{chained, recounted_at}
use Rattle.grant_history.proofs.ledger.give_instead.Goals as goal

pub take_all-requires-clause-up_to : goal.take_all-requires-clause-up_to
take_all-requires-clause-up_to c = c.in_ok-places.ensures.ok.up_to c.args.at (omega arith) c.requires.up_to

pub returns-clause-store : goal.returns-clause-store
returns-clause-store c =
    recounted_at c.args.store.now c.take_all.new.self c.args.at _ _
    (chained c.args.store.now c.give_all.new.self c.take_all.new.self c.args.at _ _ c.in_ok-places.ensures.ok c.take_all.ensures)
    (λ f.
    let gave : times c.as_slice-2.result.now f ≡ times c.args.list.now.facts.items f = ap (λ (l : List Fact). times l f) (c.as_slice-2.ensures.value ∙ ap (λ (s : SourceFacts). s.facts.items) c.replace-before.ensures.value) in
    let more : times c.as_slice.result.now f ≡ times c.args.facts.items f = ap (λ (l : List Fact). times l f) c.as_slice.ensures.value in
    omega (arith, gave, more, c.in_ok-places.ensures.ok.counts f))
