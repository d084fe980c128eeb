use Rattle.std.proofs.Common.{◌≡◌, ◌||◌, ℕ, List, drop}
use Rattle.std.specs.List.{list_any}
use Rattle.grant_history.specs.inner.Gifts.{gifts_have, held_gives}
use Rattle.grant_history.proofs.gifts.add_all.Given as goal

-- what is there so far with what is left is all
abbrev pub invariant-loop-held : goal.invariant-loop-held
invariant-loop-held l = (x : List ℕ) (k : ℕ) → (list_any (held_gives l.giver l.exists x k) (drop l.held-index l.all) || gifts_have l.gifts x k) ≡ (list_any (held_gives l.giver l.exists x k) l.all || gifts_have l.initial.gifts x k)
