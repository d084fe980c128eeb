use Rattle.std.proofs.Common.{◌≡◌, ◌||◌, Bool, drop}
use Rattle.std.specs.List.{list_any}
use Rattle.grant_tracks.specs.declared.held.Held.{Held}
use Rattle.grant_tracks.specs.inner.Passing.{passes_at}
use Rattle.grant_tracks.proofs.held.held_of.Given as goal

-- what is there so far with what is left is all
abbrev pub invariant-loop-i : goal.invariant-loop-i
invariant-loop-i l = (test : Held → Bool) → (list_any (λ h. test h.now) l.held.items || list_any (passes_at l.all l.k test) (drop l.i-index l.list)) ≡ list_any (passes_at l.all l.k test) l.list
