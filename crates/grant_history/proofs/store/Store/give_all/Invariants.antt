use Rattle.std.proofs.Common.{◌+◌, take}
use Rattle.grant_tracks.specs.Dated.{Dated}
use Rattle.grant_history.specs.Facts.{times}
use Rattle.grant_history.specs.Store.{count_at, has_at, IsStore}
use Rattle.grant_history.proofs.store.Store.give_all.Given as goal

-- those so far are given once more
abbrev pub invariant-loop-i : goal.invariant-loop-i
invariant-loop-i l =
    Dated count_at has_at IsStore l.initial.self l.self l.at (λ f. count_at l.initial.self f + times (take l.i l.facts) f)
