use Rattle.std.proofs.Common.{◌≡◌, ◌++◌, ℕ, List, drop, length, take}
use Rattle.std.specs.Prelude.{is_some}
use Rattle.std.specs.BTreeMap.{get_by_text}
use Rattle.grant_history.specs.inner.Changes.{facts_in_changes, given_after, given_before}
use Rattle.grant_history.specs.Ledger.{facts_in}
use Rattle.grant_history.proofs.changes.swap_each.Given as goal

-- those so far are kept, and what they gave stands in their place
abbrev pub invariant-loop-i : goal.invariant-loop-i
invariant-loop-i l = record {
  count : length l.changes.items ≡ length l.initial.changes.items;
  lists : (other : List ℕ) → facts_in l.lists other
      ≡ given_after (facts_in l.initial.lists) (take l.i (facts_in_changes l.initial.changes.items)) other;
  kept : (other : List ℕ) → is_some (get_by_text l.lists other) ≡ is_some (get_by_text l.initial.lists other);
  changes : facts_in_changes l.changes.items
      ≡ given_before (facts_in l.initial.lists) (take l.i (facts_in_changes l.initial.changes.items))
      ++ drop l.i (facts_in_changes l.initial.changes.items);
}
