-- What proofs need besides: the end of a block.
use Rattle.std.specs.Prelude.{ℕ, ◌-◌, take}
use Rattle.sync_resolve.specs.declared.scope.Scope.{Scope}

-- the end of a block, behind which so many variables are seen
unfoldable pub left : ℕ → Scope → Scope
left count scope = record { own = scope.own; seen = take count scope.seen; block = scope.block - 1 }
