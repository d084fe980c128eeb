-- What a function that adds to something in its place ensures. Only contracts of private functions speak of it.
use Rattle.std.specs.Prelude.{◌≡◌, ◌≢◌, Ok, Err}
use Rattle.sync_values.specs.declared.fault.Stop.TheVariants.{Memory}
use Rattle.sync_values.specs.Found.{Found}

-- this is left where nothing stops it, and else this outcome stops it, or memory failed
abbrev pub Leaves : {A : Type 0} → Found A → Found (Unit {0}) → A → Type 0
Leaves outcome (Ok _) new = outcome ≡ Ok new
Leaves outcome (Err e) new = e ≢ Memory → outcome ≡ Err e
