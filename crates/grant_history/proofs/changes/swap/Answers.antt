use Rattle.std.proofs.Common.{◌≡◌, ◌∙◌, sym, ap, arith, List, Some, ℕ, if◌then◌else◌}
use Rattle.std.specs.Prelude.{is_some}
use Rattle.std.specs.BTreeMap.{get_by_text}
use Rattle.std.specs.Cmp.Lexicographic.{bytes_decides}
use Rattle.std.specs.Str.{bytes_eq}
use Rattle.std.proofs.lemmas.Map.Text.{text_keys}
use Rattle.grant_history.specs.declared.ledger.SourceFacts.{SourceFacts}
use Rattle.grant_history.specs.Ledger.{facts_of_list, facts_in}
use Rattle.grant_history.proofs.Keeping.{swapped, swapped_there}
use Rattle.grant_history.proofs.changes.swap.Goals as goal

pub returns-in-Some-clause-lists : goal.returns-in-Some-clause-lists
returns-in-Some-clause-lists c other =
    let name = c.as_str.result.now in
    let sets : get_by_text (c.get_mut.follows.lender c.swap.new.x) other ≡ (if bytes_eq name other then Some c.swap.new.x else get_by_text c.args.lists.now other) = grind (arith, text_keys) in
    ap facts_of_list sets
    ∙ swapped (bytes_eq name other) c.swap.new.x (get_by_text c.args.lists.now other)
    ∙ ap (λ (l : SourceFacts). if bytes_eq name other then l.facts.items else facts_in c.args.lists.now other) c.swap.ensures.x_after
    ∙ ap (λ (n : List ℕ). if bytes_eq n other then c.args.change.now.list.facts.items else facts_in c.args.lists.now other) c.as_str.ensures.value

pub returns-in-Some-clause-kept : goal.returns-in-Some-clause-kept
returns-in-Some-clause-kept c other =
    let name = c.as_str.result.now in
    let sets : get_by_text (c.get_mut.follows.lender c.swap.new.x) other ≡ (if bytes_eq name other then Some c.swap.new.x else get_by_text c.args.lists.now other) = grind (arith, text_keys) in
    ap is_some sets
    ∙ swapped_there (bytes_eq name other) c.swap.new.x (get_by_text c.args.lists.now other)
    (λ same. ap (λ (n : List ℕ). is_some (get_by_text c.args.lists.now n)) (sym ((bytes_decides name other).0 same) ∙ c.as_str.ensures.value) ∙ c.requires)
