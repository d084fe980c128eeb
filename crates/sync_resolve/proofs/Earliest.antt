-- The earliest of faults, one list after the other.
use Rattle.std.proofs.Common.{◌≡◌, List, [], ◌∷◌, ◌++◌, Option, refl}
use Rattle.sync_resolve.specs.declared.fault.ResolveFault.{ResolveFault}
use Rattle.sync_resolve.specs.Faults.{earlier, earliest}

pub earliest_append : (found : Option ResolveFault) (xs ys : List ResolveFault) → earliest found (xs ++ ys) ≡ earliest (earliest found xs) ys
earliest_append found [] ys = refl
earliest_append found (x ∷ xs) ys = earliest_append (earlier found x) xs ys
