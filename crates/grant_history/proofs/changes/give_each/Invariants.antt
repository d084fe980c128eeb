use Rattle.std.proofs.Common.{◌≡◌, ◌+◌, take}
use Rattle.grant_tracks.specs.Dated.{Dated}
use Rattle.grant_history.specs.inner.Changes.{all_times, facts_in_changes}
use Rattle.grant_history.specs.Store.{count_at, has_at, IsStore}
use Rattle.grant_history.proofs.changes.give_each.Given as goal

-- those so far are given besides
abbrev pub invariant-loop-i : goal.invariant-loop-i
invariant-loop-i l = record {
  dated : Dated count_at has_at IsStore l.initial.store l.store l.at
      (λ f. count_at l.initial.store f + all_times (take l.i (facts_in_changes l.initial.changes.items)) f);
  changes : facts_in_changes l.changes.items ≡ facts_in_changes l.initial.changes.items;
}
