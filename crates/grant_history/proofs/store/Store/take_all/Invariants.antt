use Rattle.std.proofs.Common.{◌≡◌, ◌+◌, drop}
use Rattle.grant_history.specs.declared.facts.Fact.{Fact}
use Rattle.grant_tracks.specs.Dated.{Dated}
use Rattle.grant_history.specs.Facts.{times}
use Rattle.grant_history.specs.Store.{count_at, has_at, IsStore}
use Rattle.grant_history.proofs.store.Store.take_all.Given as goal

-- what is left is given still
abbrev pub invariant-loop-i : goal.invariant-loop-i
invariant-loop-i l = record {
  counts : (f : Fact) → count_at l.self f + times l.facts f ≡ count_at l.initial.self f + times (drop l.i l.facts) f;
  dated : Dated count_at has_at IsStore l.initial.self l.self l.at (count_at l.self);
}
