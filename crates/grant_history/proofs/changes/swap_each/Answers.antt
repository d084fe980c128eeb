use Rattle.std.proofs.Common.{◌≡◌, ◌∙◌, ◌<◌, ◌≤◌, sym, ap, refl, arith, List, ℕ, length, take, get_or, Some, if◌then◌else◌}
use Rattle.std.specs.Prelude.{is_some, slice_get}
use Rattle.std.specs.BTreeMap.{get_by_text}
use Rattle.std.specs.Str.{bytes_eq}
use Rattle.std.proofs.lemmas.List.{length-set, map-set, take_all}
use Rattle.std.proofs.lemmas.Option.{same_Some, slice_get-get_or}
use Rattle.grant_history.specs.declared.facts.Fact.{Fact}
use Rattle.grant_history.specs.inner.Changes.{DocumentFacts, facts_in_change, facts_in_changes, given_after}
use Rattle.grant_history.specs.Ledger.{facts_in}
use Rattle.grant_history.proofs.Changing.{all_swapped, count_same, kept_at, list_swapped, made_same, next_change, one_swapped, still_there}
use Rattle.grant_history.proofs.changes.swap_each.Goals as goal

pub loop-i-init : goal.loop-i-init
loop-i-init c = record { count = refl; lists = λ other. refl; kept = λ other. refl; changes = refl }

pub swap-requires : goal.swap-requires
swap-requires c =
    let all = facts_in_changes c.args.changes.now.items in
    let xs = c.loop-i.changes.items in
    let i = c.loop-i.i in
    let x = c.index_mut.result.now in
    let within : i < length xs = omega (arith, c.loop-i.invariant.count) in
    let there = get_or all i (facts_in_change x) in
    let at : slice_get all i ≡ Some there = slice_get-get_or all i (facts_in_change x) (omega (arith, within, c.loop-i.invariant.count, count_same c.args.changes.now.items all refl)) in
    let same : facts_in_change x ≡ there = same_Some (facts_in_change x) there
    (sym (next_change xs i x (facts_in_changes xs) refl within c.index_mut.ensures.value)
    ∙ still_there (facts_in c.args.lists.now) all i there at (facts_in_changes xs) c.loop-i.invariant.changes) in
    c.loop-i.invariant.kept x.doc.now
    ∙ ap (λ (y : DocumentFacts). is_some (get_by_text c.args.lists.now y.doc)) same
    ∙ kept_at c.args.lists.now all i there c.requires at

pub loop-i-preserved : goal.loop-i-preserved
loop-i-preserved c =
    let g = facts_in c.args.lists.now in
    let all = facts_in_changes c.args.changes.now.items in
    let xs = c.loop-i.changes.items in
    let i = c.loop-i.i in
    let x = c.index_mut.result.now in
    let z = c.swap.new.change in
    let within : i < length xs = omega (arith, c.loop-i.invariant.count) in
    let there = get_or all i (facts_in_change x) in
    let at : slice_get all i ≡ Some there = slice_get-get_or all i (facts_in_change x) (omega (arith, within, c.loop-i.invariant.count, count_same c.args.changes.now.items all refl)) in
    let same : facts_in_change x ≡ there = same_Some (facts_in_change x) there
    (sym (next_change xs i x (facts_in_changes xs) refl within c.index_mut.ensures.value)
    ∙ still_there g all i there at (facts_in_changes xs) c.loop-i.invariant.changes) in
    let doc : x.doc.now ≡ there.doc = ap (λ (y : DocumentFacts). y.doc) same in
    record {
      count = length-set xs i z ∙ c.loop-i.invariant.count;
      lists = λ other.
          c.swap.ensures.lists other
          ∙ ap (λ (l : List Fact). if bytes_eq x.doc.now other then x.list.facts.items else l) (c.loop-i.invariant.lists other)
          ∙ ap (λ (y : DocumentFacts). if bytes_eq y.doc other then y.facts else given_after g (take i all) other) same
          ∙ list_swapped g all i there at other;
      kept = λ other. c.swap.ensures.kept other ∙ c.loop-i.invariant.kept other;
      changes =
          map-set facts_in_change xs i z
          ∙ one_swapped g all i there at (facts_in_changes xs) (facts_in_change z) c.loop-i.invariant.changes
          (made_same (facts_in_change z) there.doc (given_after g (take i all) there.doc)
          (c.swap.ensures.doc ∙ doc)
          (c.swap.ensures.facts ∙ c.loop-i.invariant.lists x.doc.now ∙ ap (λ (n : List ℕ). given_after g (take i all) n) doc));
    }

pub returns-clause-lists : goal.returns-clause-lists
returns-clause-lists c = λ other.
    let all = facts_in_changes c.args.changes.now.items in
    let le : length all ≤ c.loop-i.i = omega (arith, count_same c.args.changes.now.items all refl) in
    c.loop-i.invariant.lists other ∙ ap (λ (l : List DocumentFacts). given_after (facts_in c.args.lists.now) l other) (take_all c.loop-i.i all le)

pub returns-clause-changes : goal.returns-clause-changes
returns-clause-changes c =
    let all = facts_in_changes c.args.changes.now.items in
    let le : length all ≤ c.loop-i.i = omega (arith, count_same c.args.changes.now.items all refl) in
    c.loop-i.invariant.changes ∙ all_swapped (facts_in c.args.lists.now) all c.loop-i.i le
