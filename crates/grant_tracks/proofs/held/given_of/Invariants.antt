use Rattle.std.proofs.Common.{◌≡◌, ◌||◌, ℕ, drop}
use Rattle.grant_tracks.specs.Listed.{is_in}
use Rattle.grant_tracks.specs.inner.Passing.{given_in}
use Rattle.grant_tracks.proofs.held.given_of.Given as goal

-- what is there so far with what is left is all
abbrev pub invariant-loop-i : goal.invariant-loop-i
invariant-loop-i l = (x : ℕ) → (is_in l.given.items x || given_in l.all (drop l.i-index l.list) x) ≡ given_in l.all l.list x
