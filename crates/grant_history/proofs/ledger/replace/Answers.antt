use Rattle.std.proofs.Common.{rules, ◌≡◌, ◌<◌, ◌∙◌, ◌+◌, ◌-◌, sym, ap, arith, List, length, Option, Some, None, if◌then◌else◌}
use Rattle.std.specs.BTreeMap.{get_by_text}
use Rattle.std.specs.Str.{bytes_eq}
use Rattle.std.proofs.lemmas.Map.Text.{text_keys}
use Rattle.grant_history.specs.declared.facts.Fact.{Fact}
use Rattle.grant_history.specs.declared.ledger.SourceFacts.{SourceFacts}
use Rattle.grant_history.specs.Facts.{times}
use Rattle.grant_history.specs.Store.{count_at}
use Rattle.grant_history.specs.Ledger.{facts_of_list, facts_in}
use Rattle.grant_history.proofs.Storing.{recounted_at}
use Rattle.grant_history.proofs.Keeping.{swapped, as_it_was}
use Rattle.grant_history.proofs.Steps.{still_none}
use Rattle.grant_tracks.proofs.Tracked.{on_ok, on_err}
use Rattle.grant_history.proofs.ledger.replace.Goals as goal

pub returns-in-Some-clause-lists : goal.returns-in-Some-clause-lists
returns-in-Some-clause-lists c =
    on_ok c.exchange.result _ _ (λ is other.
    let sets : get_by_text (c.get_mut.follows.lender c.exchange.new.list) other ≡ (if bytes_eq c.args.name.now other then Some c.exchange.new.list else get_by_text c.args.lists.now other) = grind (arith, text_keys) in
    ap facts_of_list sets
    ∙ swapped (bytes_eq c.args.name.now other) c.exchange.new.list (get_by_text c.args.lists.now other)
    ∙ ap (λ (l : List Fact). if bytes_eq c.args.name.now other then l else facts_in c.args.lists.now other) is) c.exchange.ensures.list

pub returns-in-Some-clause-err_lists : goal.returns-in-Some-clause-err_lists
returns-in-Some-clause-err_lists c =
    let there : get_by_text c.args.lists.now c.args.name.now ≡ Some c.in-Some.list.now = grind (arith, text_keys) in
    on_err c.exchange.result _ _ (λ same other.
    let sets : get_by_text (c.get_mut.follows.lender c.exchange.new.list) other ≡ (if bytes_eq c.args.name.now other then Some c.exchange.new.list else get_by_text c.args.lists.now other) = grind (arith, text_keys) in
    ap facts_of_list sets
    ∙ swapped (bytes_eq c.args.name.now other) c.exchange.new.list (get_by_text c.args.lists.now other)
    ∙ as_it_was c.args.lists.now c.args.name.now other c.exchange.new.list.facts.items (same ∙ sym (ap facts_of_list there))) c.exchange.ensures.err_list

pub returns-then-is_empty-clause-lists : goal.returns-then-is_empty-clause-lists
returns-then-is_empty-clause-lists c other =
    let none : length c.args.facts.items ≡ 0 = search rules in
    let absent : get_by_text c.get_mut.follows.lender-at-none c.args.name.now ≡ None = grind (arith, text_keys) in
    let same : get_by_text c.get_mut.follows.lender-at-none other ≡ get_by_text c.args.lists.now other = grind (arith, text_keys) in
    still_none c.get_mut.follows.lender-at-none c.args.name.now other c.args.facts.items none absent
    ∙ ap (λ (o : Option SourceFacts). if bytes_eq c.args.name.now other then c.args.facts.items else facts_of_list o) same

pub exchange-requires-clause-given : goal.exchange-requires-clause-given
exchange-requires-clause-given c = λ f.
    let there : get_by_text c.args.lists.now c.args.name.now ≡ Some c.in-Some.list.now = grind (arith, text_keys) in
    let had : times (facts_in c.args.lists.now c.args.name.now) f ≡ times c.in-Some.list.now.facts.items f = ap (λ (o : Option SourceFacts). times (facts_of_list o) f) there in
    omega (arith, had, c.requires.given f)

pub returns-in-Some-clause-store : goal.returns-in-Some-clause-store
returns-in-Some-clause-store c =
    let there : get_by_text c.args.lists.now c.args.name.now ≡ Some c.in-Some.list.now = grind (arith, text_keys) in
    on_ok c.exchange.result _ _ (λ d. recounted_at c.args.store.now c.exchange.new.store c.args.at _ _ d (λ f.
    ap (λ (o : Option SourceFacts). count_at c.args.store.now f + times c.args.facts.items f - times (facts_of_list o) f) (sym there))) c.exchange.ensures.store

pub returns-clause-store : goal.returns-clause-store
returns-clause-store c =
    let absent : get_by_text c.args.lists.now c.args.name.now ≡ None = grind (arith, text_keys) in
    on_ok c.begin.result _ _ (λ d. recounted_at c.args.store.now c.begin.new.store c.args.at _ _ d (λ f.
    let none : times (facts_in c.args.lists.now c.args.name.now) f ≡ 0 = ap (λ (o : Option SourceFacts). times (facts_of_list o) f) absent in
    omega (arith, none))) c.begin.ensures.store

pub returns-in-Some-clause-same : goal.returns-in-Some-clause-same
returns-in-Some-clause-same c = λ same.
    let there : get_by_text c.args.lists.now c.args.name.now ≡ Some c.in-Some.list.now = grind (arith, text_keys) in
    c.exchange.ensures.same (sym (ap facts_of_list there) ∙ same)

pub returns-clause-same : goal.returns-clause-same
returns-clause-same c = λ same.
    let absent : get_by_text c.args.lists.now c.args.name.now ≡ None = grind (arith, text_keys) in
    let none : length c.args.facts.items ≡ 0 = sym (ap (λ (l : List Fact). length l) same) ∙ ap (λ (o : Option SourceFacts). length (facts_of_list o)) absent in
    let some : 0 < length c.args.facts.items = search rules in
    absurd (omega (arith, none, some))
