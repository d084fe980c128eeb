use Rattle.std.proofs.Common.{◌≡◌, ◌||◌, ℕ, List, drop}
use Rattle.std.specs.List.{list_any}
use Rattle.grant_history.specs.inner.Givers.{giver_has}
use Rattle.grant_tracks.specs.Reads.{by_roles}
use Rattle.grant_history.proofs.givers.givers_of.Given as goal

-- the roles so far with what is left are all
abbrev pub invariant-loop-held : goal.invariant-loop-held
invariant-loop-held l = (k : ℕ) (x : List ℕ) → (list_any (λ g. giver_has g k x) l.list.items || by_roles l.roles (drop l.held-index l.all) k x) ≡ by_roles l.roles l.all k x
