-- What an operation on values finds, or what stops it.
use Rattle.std.specs.Prelude.{◌≡◌, ◌≢◌, Result, Ok, Err}
use Rattle.sync_tokens.specs.declared.place.Place.{Place}
use Rattle.sync_values.specs.declared.fault.FaultKind.{FaultKind}
use Rattle.sync_values.specs.declared.fault.FaultKind.TheVariants.{TypeFault}
use Rattle.sync_values.specs.declared.fault.RuleKind.{RuleKind}
use Rattle.sync_values.specs.declared.fault.RuleKind.TheVariants.{Fault}
use Rattle.sync_values.specs.declared.fault.Stop.{Stop}
use Rattle.sync_values.specs.declared.fault.Stop.TheVariants.{Deny, Memory}

-- what is found, or what stops it
abbrev pub Found : Type 0 → Type 0
Found A = Result A Stop

-- ---- what stops a run

-- a rule denies at this place
abbrev pub denial : RuleKind → Place → Stop
denial kind p = Deny (record { kind = kind; place = p })

-- a fault of this kind at this place
abbrev pub fault : FaultKind → Place → Stop
fault kind p = denial (Fault kind) p

-- nothing is found, for a fault
abbrev pub fails : {A : Type 0} → FaultKind → Place → Found A
fails kind p = Err (fault kind p)

-- a value of another kind was wanted
abbrev pub type_fault : {A : Type 0} → Place → Found A
type_fault p = fails TypeFault p

-- ---- what a function ensures: what is found, unless memory fails

-- the result is this outcome, or memory failed
abbrev pub Gives : {A : Type 0} → Found A → Found A → Type 0
Gives outcome (Ok a) = outcome ≡ Ok a
Gives outcome (Err e) = e ≢ Memory → outcome ≡ Err e
