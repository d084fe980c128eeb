use Rattle.std.proofs.Common.{◌≡◌, ◌+◌, drop}
use Rattle.grant_history.specs.declared.facts.Fact.{Fact}
use Rattle.grant_tracks.specs.Dated.{Dated}
use Rattle.grant_history.specs.inner.Changes.{all_times, facts_in_changes}
use Rattle.grant_history.specs.Store.{count_at, has_at, IsStore}
use Rattle.grant_history.proofs.changes.take_back.Given as goal

-- what is left is given still
abbrev pub invariant-loop-change : goal.invariant-loop-change
invariant-loop-change l = record {
  counts : (f : Fact) → count_at l.store f + all_times (facts_in_changes l.changes) f
      ≡ count_at l.initial.store f + all_times (facts_in_changes (drop l.change-index l.changes)) f;
  dated : Dated count_at has_at IsStore l.initial.store l.store l.at (count_at l.store);
}
