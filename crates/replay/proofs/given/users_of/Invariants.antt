use Rattle.std.proofs.Common.{◌≡◌, map, take}
use Rattle.replay.proofs.given.users_of.Given as goal

abbrev pub invariant-loop-recorded : goal.invariant-loop-recorded
invariant-loop-recorded l = l.users.items ≡ map (λ r. r.user) (take l.recorded-index l.sessions)
