use Rattle.std.proofs.Common.{◌≡◌, ◌||◌, ℕ, List, drop}
use Rattle.std.specs.List.{list_any}
use Rattle.grant_history.specs.inner.Gifts.{gifts_have}
use Rattle.grant_history.specs.inner.Givers.{giver_has}
use Rattle.grant_history.proofs.gifts.add_givers.Given as goal

-- what is there so far with what is left is all
abbrev pub invariant-loop-giver : goal.invariant-loop-giver
invariant-loop-giver l = (x : List ℕ) (k : ℕ) → (list_any (λ g. giver_has g k x) (drop l.giver-index l.givers) || gifts_have l.gifts x k) ≡ (list_any (λ g. giver_has g k x) l.givers || gifts_have l.initial.gifts x k)
