use Rattle.std.proofs.Common.{◌≡◌, ◌∙◌, sym, ap, Bool, List, [], ◌∷◌, ◌++◌, if◌then◌else◌}
use Rattle.std.proofs.lemmas.List.{append-nil, map-append}
use Rattle.grant_history.specs.declared.facts.Fact.{Fact}
use Rattle.grant_history.specs.inner.Changes.{DocumentFacts, facts_in_change, facts_in_changes, others}
use Rattle.grant_history.specs.Facts.{mark_facts, same_facts}
use Rattle.grant_history.specs.Ledger.{kept_of}
use Rattle.grant_history.proofs.Changing.{made_same}
use Rattle.grant_history.proofs.changes.add_mark.Goals as goal

pub returns-then-gives : goal.returns-then-gives
returns-then-gives c =
    let old = facts_in_changes c.args.changes.now.items in
    let gave = kept_of c.args.ledger.now in
    let change = c.in_ok-change.change in
    let test : same_facts (gave change.doc.now) change.list.facts.items ≡ c.gives.result = ap (λ (l : List Fact). same_facts (gave change.doc.now) l) (sym c.as_slice.ensures.value) ∙ sym c.gives.ensures in
    let made = made_same (facts_in_change change) c.args.mark.now.doc (mark_facts c.args.mark.now) c.in_ok-change.ensures.doc c.in_ok-change.ensures.facts in
    sym (ap (λ (b : Bool). old ++ (if b then [] else facts_in_change change ∷ [])) (test ∙ c.if-gives.true) ∙ append-nil old)
    ∙ ap (λ (z : DocumentFacts). old ++ others gave (z ∷ [])) made

pub returns : goal.returns
returns c =
    let old = facts_in_changes c.args.changes.now.items in
    let gave = kept_of c.args.ledger.now in
    let change = c.in_ok-change.change in
    let test : same_facts (gave change.doc.now) change.list.facts.items ≡ c.gives.result = ap (λ (l : List Fact). same_facts (gave change.doc.now) l) (sym c.as_slice.ensures.value) ∙ sym c.gives.ensures in
    let made = made_same (facts_in_change change) c.args.mark.now.doc (mark_facts c.args.mark.now) c.in_ok-change.ensures.doc c.in_ok-change.ensures.facts in
    ap facts_in_changes c.in_ok-push.ensures.items
    ∙ map-append facts_in_change c.args.changes.now.items (change ∷ [])
    ∙ sym (ap (λ (b : Bool). old ++ (if b then [] else facts_in_change change ∷ [])) (test ∙ c.if-gives.false))
    ∙ ap (λ (z : DocumentFacts). old ++ others gave (z ∷ [])) made
