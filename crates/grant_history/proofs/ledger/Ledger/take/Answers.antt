use Rattle.std.proofs.Common.{◌≡◌, ◌<◌, ◌∙◌, sym, ap, subst, ℕ, List}
use Rattle.grant_history.specs.declared.facts.Fact.{Fact}
use Rattle.grant_history.specs.declared.ledger.Ledger.{Ledger}
use Rattle.grant_history.specs.Store.{has_at}
use Rattle.grant_history.specs.Ledger.{Source, document, user, role, facts_from, source_in, IsStep}
use Rattle.grant_tracks.proofs.Tracked.{on_both, on_both_err, on_ok, on_err, either}
use Rattle.grant_history.proofs.Keeping.{took, kept_on, of_documents, of_users, of_roles, same_documents, same_users, same_roles, asked_up_to, asked_given}
use Rattle.grant_history.proofs.ledger.Ledger.take.Goals as goal

pub replace-requires : goal.replace-requires
replace-requires c =
    let old = c.args.self.now in
    let name = c.as_str.result.now in
    let facts = c.args.facts.items in
    let e = c.requires.0 in
    let es = c.requires.1 in
    let is : source_in c.args.source ≡ document name = ap source_in c.in-Document.is ∙ ap (λ (n : List ℕ). document n) (sym c.as_str.ensures.value) in
    let step : IsStep old c.args.at (document name) facts e es = subst (λ (s : Source). IsStep old c.args.at s facts e es) is c.requires.2 in
    record {
      up_to = asked_up_to old c.args.at (document name) facts e es step;
      given = asked_given old c.args.at (document name) facts e es step;
    }

pub returns-in-Document-clause-ok : goal.returns-in-Document-clause-ok
returns-in-Document-clause-ok c =
    let old : Ledger = c.args.self.now in
    let name = c.as_str.result.now in
    let facts = c.args.facts.items in
    let new : Ledger = record { store = c.replace.new.store; documents = c.replace.new.lists; users = old.users; roles = old.roles } in
    let is : source_in c.args.source ≡ document name = ap source_in c.in-Document.is ∙ ap (λ (n : List ℕ). document n) (sym c.as_str.ensures.value) in
    on_both c.replace.result _ _ _
    (λ d lists e es step. took old new c.args.at (document name) facts d (of_documents old c.replace.new.store c.replace.new.lists name facts lists) e es
    (subst (λ (s : Source). IsStep old c.args.at s facts e es) is step))
    c.replace.ensures.store c.replace.ensures.lists

pub returns-in-Document-clause-err : goal.returns-in-Document-clause-err
returns-in-Document-clause-err c =
    let old : Ledger = c.args.self.now in
    let new : Ledger = record { store = c.replace.new.store; documents = c.replace.new.lists; users = old.users; roles = old.roles } in
    on_both_err c.replace.result _ _ _
    (λ d lists es place is. kept_on old new c.args.at d (same_documents old c.replace.new.store c.replace.new.lists c.as_str.result.now c.args.facts.items lists) es place is)
    c.replace.ensures.err_store c.replace.ensures.err_lists

pub returns-in-Document-clause-before : goal.returns-in-Document-clause-before
returns-in-Document-clause-before c =
    either c.replace.result ((f : Fact) (k : ℕ) → k < c.args.at → has_at c.replace.new.store f k ≡ has_at c.args.self.now.store f k)
    (on_ok c.replace.result _ _ (λ d. d.before) c.replace.ensures.store)
    (on_err c.replace.result _ _ (λ d. d.before) c.replace.ensures.err_store)

pub replace-requires-in-User : goal.replace-requires-in-User
replace-requires-in-User c =
    let old = c.args.self.now in
    let name = c.as_str-in-User.result.now in
    let facts = c.args.facts.items in
    let e = c.requires.0 in
    let es = c.requires.1 in
    let is : source_in c.args.source ≡ user name = ap source_in c.in-User.is ∙ ap (λ (n : List ℕ). user n) (sym c.as_str-in-User.ensures.value) in
    let step : IsStep old c.args.at (user name) facts e es = subst (λ (s : Source). IsStep old c.args.at s facts e es) is c.requires.2 in
    record {
      up_to = asked_up_to old c.args.at (user name) facts e es step;
      given = asked_given old c.args.at (user name) facts e es step;
    }

pub returns-in-User-clause-ok : goal.returns-in-User-clause-ok
returns-in-User-clause-ok c =
    let old : Ledger = c.args.self.now in
    let name = c.as_str-in-User.result.now in
    let facts = c.args.facts.items in
    let new : Ledger = record { store = c.replace-in-User.new.store; documents = old.documents; users = c.replace-in-User.new.lists; roles = old.roles } in
    let is : source_in c.args.source ≡ user name = ap source_in c.in-User.is ∙ ap (λ (n : List ℕ). user n) (sym c.as_str-in-User.ensures.value) in
    on_both c.replace-in-User.result _ _ _
    (λ d lists e es step. took old new c.args.at (user name) facts d (of_users old c.replace-in-User.new.store c.replace-in-User.new.lists name facts lists) e es
    (subst (λ (s : Source). IsStep old c.args.at s facts e es) is step))
    c.replace-in-User.ensures.store c.replace-in-User.ensures.lists

pub returns-in-User-clause-err : goal.returns-in-User-clause-err
returns-in-User-clause-err c =
    let old : Ledger = c.args.self.now in
    let new : Ledger = record { store = c.replace-in-User.new.store; documents = old.documents; users = c.replace-in-User.new.lists; roles = old.roles } in
    on_both_err c.replace-in-User.result _ _ _
    (λ d lists es place is. kept_on old new c.args.at d (same_users old c.replace-in-User.new.store c.replace-in-User.new.lists c.as_str-in-User.result.now c.args.facts.items lists) es place is)
    c.replace-in-User.ensures.err_store c.replace-in-User.ensures.err_lists

pub returns-in-User-clause-before : goal.returns-in-User-clause-before
returns-in-User-clause-before c =
    either c.replace-in-User.result ((f : Fact) (k : ℕ) → k < c.args.at → has_at c.replace-in-User.new.store f k ≡ has_at c.args.self.now.store f k)
    (on_ok c.replace-in-User.result _ _ (λ d. d.before) c.replace-in-User.ensures.store)
    (on_err c.replace-in-User.result _ _ (λ d. d.before) c.replace-in-User.ensures.err_store)

pub replace-requires-in-Role : goal.replace-requires-in-Role
replace-requires-in-Role c =
    let old = c.args.self.now in
    let name = c.as_str-in-Role.result.now in
    let facts = c.args.facts.items in
    let e = c.requires.0 in
    let es = c.requires.1 in
    let is : source_in c.args.source ≡ role name = ap source_in c.in-Role.is ∙ ap (λ (n : List ℕ). role n) (sym c.as_str-in-Role.ensures.value) in
    let step : IsStep old c.args.at (role name) facts e es = subst (λ (s : Source). IsStep old c.args.at s facts e es) is c.requires.2 in
    record {
      up_to = asked_up_to old c.args.at (role name) facts e es step;
      given = asked_given old c.args.at (role name) facts e es step;
    }

pub returns-in-Role-clause-ok : goal.returns-in-Role-clause-ok
returns-in-Role-clause-ok c =
    let old : Ledger = c.args.self.now in
    let name = c.as_str-in-Role.result.now in
    let facts = c.args.facts.items in
    let new : Ledger = record { store = c.replace-in-Role.new.store; documents = old.documents; users = old.users; roles = c.replace-in-Role.new.lists } in
    let is : source_in c.args.source ≡ role name = ap source_in c.in-Role.is ∙ ap (λ (n : List ℕ). role n) (sym c.as_str-in-Role.ensures.value) in
    on_both c.replace-in-Role.result _ _ _
    (λ d lists e es step. took old new c.args.at (role name) facts d (of_roles old c.replace-in-Role.new.store c.replace-in-Role.new.lists name facts lists) e es
    (subst (λ (s : Source). IsStep old c.args.at s facts e es) is step))
    c.replace-in-Role.ensures.store c.replace-in-Role.ensures.lists

pub returns-in-Role-clause-err : goal.returns-in-Role-clause-err
returns-in-Role-clause-err c =
    let old : Ledger = c.args.self.now in
    let new : Ledger = record { store = c.replace-in-Role.new.store; documents = old.documents; users = old.users; roles = c.replace-in-Role.new.lists } in
    on_both_err c.replace-in-Role.result _ _ _
    (λ d lists es place is. kept_on old new c.args.at d (same_roles old c.replace-in-Role.new.store c.replace-in-Role.new.lists c.as_str-in-Role.result.now c.args.facts.items lists) es place is)
    c.replace-in-Role.ensures.err_store c.replace-in-Role.ensures.err_lists

pub returns-in-Role-clause-before : goal.returns-in-Role-clause-before
returns-in-Role-clause-before c =
    either c.replace-in-Role.result ((f : Fact) (k : ℕ) → k < c.args.at → has_at c.replace-in-Role.new.store f k ≡ has_at c.args.self.now.store f k)
    (on_ok c.replace-in-Role.result _ _ (λ d. d.before) c.replace-in-Role.ensures.store)
    (on_err c.replace-in-Role.result _ _ (λ d. d.before) c.replace-in-Role.ensures.err_store)

pub returns-in-Document-clause-same : goal.returns-in-Document-clause-same
returns-in-Document-clause-same c = λ same.
    let is : source_in c.args.source ≡ document c.as_str.result.now = ap source_in c.in-Document.is ∙ ap (λ (n : List ℕ). document n) (sym c.as_str.ensures.value) in
    c.replace.ensures.same (sym (ap (λ (s : Source). facts_from c.args.self.now s) is) ∙ same)

pub returns-in-User-clause-same : goal.returns-in-User-clause-same
returns-in-User-clause-same c = λ same.
    let is : source_in c.args.source ≡ user c.as_str-in-User.result.now = ap source_in c.in-User.is ∙ ap (λ (n : List ℕ). user n) (sym c.as_str-in-User.ensures.value) in
    c.replace-in-User.ensures.same (sym (ap (λ (s : Source). facts_from c.args.self.now s) is) ∙ same)

pub returns-in-Role-clause-same : goal.returns-in-Role-clause-same
returns-in-Role-clause-same c = λ same.
    let is : source_in c.args.source ≡ role c.as_str-in-Role.result.now = ap source_in c.in-Role.is ∙ ap (λ (n : List ℕ). role n) (sym c.as_str-in-Role.ensures.value) in
    c.replace-in-Role.ensures.same (sym (ap (λ (s : Source). facts_from c.args.self.now s) is) ∙ same)
