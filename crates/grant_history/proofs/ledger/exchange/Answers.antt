use Rattle.std.proofs.Common.{◌≡◌, ◌∙◌, sym, ap, arith, true, List}
use Rattle.std.proofs.lemmas.Bool.{false≢true}
use Rattle.grant_history.specs.declared.facts.Fact.{Fact}
use Rattle.grant_history.specs.Facts.{same_facts, times}
use Rattle.grant_history.proofs.Same.{list_itself, same_lists}
use Rattle.grant_history.proofs.Storing.{recounted_at, same_store}
use Rattle.grant_history.proofs.ledger.exchange.Goals as goal

pub returns-then-are_same-clause-store : goal.returns-then-are_same-clause-store
returns-then-are_same-clause-store c =
    let same = same_lists c.as_slice.result.now c.as_slice-2.result.now (sym c.are_same.ensures ∙ c.if-are_same.true) in
    let facts : c.args.list.now.facts.items ≡ c.args.facts.items = sym c.as_slice.ensures.value ∙ same ∙ c.as_slice-2.ensures.value in
    recounted_at c.args.store.now c.args.store.now c.args.at _ _ (same_store c.args.store.now c.args.at)
    (λ f. omega (arith, ap (λ (l : List Fact). times l f) facts))

pub returns-then-are_same-clause-list : goal.returns-then-are_same-clause-list
returns-then-are_same-clause-list c =
    let same = same_lists c.as_slice.result.now c.as_slice-2.result.now (sym c.are_same.ensures ∙ c.if-are_same.true) in
    sym c.as_slice.ensures.value ∙ same ∙ c.as_slice-2.ensures.value

pub returns-clause-same : goal.returns-clause-same
returns-clause-same c = λ facts.
    let itself : same_facts c.as_slice.result.now c.as_slice-2.result.now ≡ true =
    ap (λ (l : List Fact). same_facts l c.as_slice-2.result.now) (c.as_slice.ensures.value ∙ facts ∙ sym c.as_slice-2.ensures.value) ∙ list_itself c.as_slice-2.result.now in
    absurd (false≢true (sym c.if-are_same.false ∙ c.are_same.ensures ∙ itself))
