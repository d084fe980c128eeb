use Rattle.std.proofs.Common.{◌≡◌, ◌++◌, drop}
use Rattle.grant_history.specs.Facts.{gift_facts}
use Rattle.grant_history.proofs.given.add_gifts.Given as goal

-- what is there so far with what is left is all
abbrev pub invariant-loop-gift : goal.invariant-loop-gift
invariant-loop-gift l = l.list.items ++ gift_facts (drop l.gift-index l.gifts) ≡ l.initial.list.items ++ gift_facts l.gifts
