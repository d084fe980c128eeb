use Rattle.std.proofs.Common.{◌≡◌, ◌∙◌, sym, ap, arith, List, Some, if◌then◌else◌}
use Rattle.std.specs.BTreeMap.{get_by_text}
use Rattle.std.specs.Str.{bytes_eq}
use Rattle.std.proofs.lemmas.Map.Text.{text_keys}
use Rattle.grant_history.specs.declared.facts.Fact.{Fact}
use Rattle.grant_history.specs.Facts.{times}
use Rattle.grant_history.specs.Ledger.{facts_of_list, facts_in}
use Rattle.grant_history.proofs.Storing.{recounted_at}
use Rattle.grant_history.proofs.Keeping.{begun_empty, swapped, as_it_was}
use Rattle.grant_tracks.proofs.Tracked.{on_ok, on_err}
use Rattle.grant_history.proofs.ledger.begin.Goals as goal

pub exchange-requires-clause-given : goal.exchange-requires-clause-given
exchange-requires-clause-given c = λ f.
    let empty = begun_empty c.args.lists.now c.make_list.new.lists c.args.name.now c.in-Some.list.now c.requires.new c.make_list.ensures.lists (grind (arith, text_keys)) in
    omega (arith, ap (λ (l : List Fact). times l f) empty)

pub returns-in-Some-clause-store : goal.returns-in-Some-clause-store
returns-in-Some-clause-store c =
    let empty = begun_empty c.args.lists.now c.make_list.new.lists c.args.name.now c.in-Some.list.now c.requires.new c.make_list.ensures.lists (grind (arith, text_keys)) in
    on_ok c.exchange.result _ _ (λ d. recounted_at c.args.store.now c.exchange.new.store c.args.at _ _ d (λ f. omega (arith, ap (λ (l : List Fact). times l f) empty))) c.exchange.ensures.store

pub returns-in-Some-clause-lists : goal.returns-in-Some-clause-lists
returns-in-Some-clause-lists c =
    on_ok c.exchange.result _ _ (λ is other.
    let sets : get_by_text (c.get_mut.follows.lender c.exchange.new.list) other ≡ (if bytes_eq c.args.name.now other then Some c.exchange.new.list else get_by_text c.make_list.new.lists other) = grind (arith, text_keys) in
    ap facts_of_list sets
    ∙ swapped (bytes_eq c.args.name.now other) c.exchange.new.list (get_by_text c.make_list.new.lists other)
    ∙ ap (λ (l : List Fact). if bytes_eq c.args.name.now other then l else facts_in c.make_list.new.lists other) is
    ∙ ap (λ (l : List Fact). if bytes_eq c.args.name.now other then c.args.facts.items else l) (c.make_list.ensures.lists other)) c.exchange.ensures.list

pub returns-in-Some-clause-err_lists : goal.returns-in-Some-clause-err_lists
returns-in-Some-clause-err_lists c =
    let there : get_by_text c.make_list.new.lists c.args.name.now ≡ Some c.in-Some.list.now = grind (arith, text_keys) in
    on_err c.exchange.result _ _ (λ same other.
    let sets : get_by_text (c.get_mut.follows.lender c.exchange.new.list) other ≡ (if bytes_eq c.args.name.now other then Some c.exchange.new.list else get_by_text c.make_list.new.lists other) = grind (arith, text_keys) in
    ap facts_of_list sets
    ∙ swapped (bytes_eq c.args.name.now other) c.exchange.new.list (get_by_text c.make_list.new.lists other)
    ∙ as_it_was c.make_list.new.lists c.args.name.now other c.exchange.new.list.facts.items (same ∙ sym (ap facts_of_list there))
    ∙ c.make_list.ensures.lists other) c.exchange.ensures.err_list
