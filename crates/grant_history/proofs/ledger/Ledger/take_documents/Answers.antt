use Rattle.std.proofs.Common.{rules, ◌≡◌, ◌<◌, ◌∙◌, ℕ, refl, sym, ap, subst, arith, List, [], length}
use Rattle.grant_history.specs.declared.facts.Fact.{Fact}
use Rattle.grant_history.specs.Store.{has_at}
use Rattle.grant_history.specs.inner.Changes.{AreChanges, DocumentFacts, facts_in_change, facts_in_changes}
use Rattle.grant_tracks.proofs.Tracked.{on_both, on_both_err, on_ok, on_err, either}
use Rattle.grant_history.proofs.Keeping.{each_up_to, each_given, took_each, each_kept_on}
use Rattle.std.proofs.lemmas.List.{length-map}
use Rattle.grant_history.proofs.Changing.{none_in}
use Rattle.grant_history.proofs.Storing.{recounted_at, same_store}
use Rattle.grant_history.proofs.ledger.Ledger.take_documents.Goals as goal

pub exchange_each-requires : goal.exchange_each-requires
exchange_each-requires c = record {
  up_to = each_up_to c.args.self.now c.args.at (facts_in_changes c.args.changes.now.items) c.requires.0 c.requires.1 c.requires.2;
  given = each_given c.args.self.now c.args.at (facts_in_changes c.args.changes.now.items) c.requires.0 c.requires.1 c.requires.2;
}

pub returns-clause-ok : goal.returns-clause-ok
returns-clause-ok c =
    on_both c.exchange_each.result _ _ _
    (λ d lists e es are. took_each c.args.self.now c.args.at (facts_in_changes c.args.changes.now.items) e es are c.exchange_each.new.store c.exchange_each.new.lists d lists)
    c.exchange_each.ensures.store c.exchange_each.ensures.lists

pub returns-clause-err : goal.returns-clause-err
returns-clause-err c =
    on_both_err c.exchange_each.result _ _ _
    (λ d lists es place is. each_kept_on c.args.self.now c.args.at c.exchange_each.new.store c.exchange_each.new.lists d lists es place is)
    c.exchange_each.ensures.err_store c.exchange_each.ensures.err_lists

pub returns-clause-before : goal.returns-clause-before
returns-clause-before c =
    either c.exchange_each.result ((f : Fact) (k : ℕ) → k < c.args.at → has_at c.exchange_each.new.store f k ≡ has_at c.args.self.now.store f k)
    (on_ok c.exchange_each.result _ _ (λ d. d.before) c.exchange_each.ensures.store)
    (on_err c.exchange_each.result _ _ (λ d. d.before) c.exchange_each.ensures.err_store)

-- where none gives something else
pub returns-then-is_empty-clause-ok : goal.returns-then-is_empty-clause-ok
returns-then-is_empty-clause-ok c = λ e es are.
    let old = c.args.self.now in
    let none : facts_in_changes c.args.changes.now.items ≡ [] = none_in c.args.changes.now.items (search rules) in
    took_each old c.args.at [] e es (subst (λ (cs : List DocumentFacts). AreChanges old c.args.at cs e es) none are) old.store old.documents
    (recounted_at old.store old.store c.args.at _ _ (same_store old.store c.args.at) (λ f. omega arith)) (λ d. refl)

pub returns-clause-same : goal.returns-clause-same
returns-clause-same c = λ same.
    let some : 0 < length c.args.changes.now.items = search rules in
    absurd (omega (arith, some, sym (length-map c.args.changes.now.items facts_in_change) ∙ ap (λ (l : List DocumentFacts). length l) same))
