use Rattle.std.proofs.Common.{◌≡◌, take}
use Rattle.log_views.specs.Filters.{names_of}
use Rattle.log_views.proofs.filter.listed.Given as goal

abbrev pub invariant-loop-item : goal.invariant-loop-item
invariant-loop-item l = names_of l.list.items ≡ take l.item-index l.items
