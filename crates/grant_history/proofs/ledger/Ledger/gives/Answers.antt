use Rattle.std.proofs.Common.{◌≡◌, ◌∙◌, sym, ap, arith, List, Option, Some, None}
use Rattle.std.specs.BTreeMap.{get_by_text}
use Rattle.std.proofs.lemmas.Map.Text.{text_keys}
use Rattle.grant_history.specs.declared.facts.Fact.{Fact}
use Rattle.grant_history.specs.declared.ledger.SourceFacts.{SourceFacts}
use Rattle.grant_history.specs.Facts.{same_facts}
use Rattle.grant_history.specs.Ledger.{facts_of_list}
use Rattle.grant_history.proofs.Same.{none_same}
use Rattle.grant_history.proofs.ledger.Ledger.gives.Goals as goal

pub returns-in-None : goal.returns-in-None
returns-in-None c =
    let at : get_by_text c.args.self.now.documents c.args.doc.now ≡ None = grind (arith, text_keys) in
    none_same c.args.facts.now c.is_empty.result c.is_empty.ensures
    ∙ sym (ap (λ (o : Option SourceFacts). same_facts (facts_of_list o) c.args.facts.now) at)

pub returns-in-Some : goal.returns-in-Some
returns-in-Some c =
    let at : get_by_text c.args.self.now.documents c.args.doc.now ≡ Some c.in-Some.list.now = grind (arith, text_keys) in
    c.are_same.ensures
    ∙ ap (λ (l : List Fact). same_facts l c.args.facts.now) c.as_slice.ensures.value
    ∙ sym (ap (λ (o : Option SourceFacts). same_facts (facts_of_list o) c.args.facts.now) at)
