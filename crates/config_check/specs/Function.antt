-- Where the text of a sync function is refused, and why.
use Rattle.std.specs.Prelude.{◌≡◌, Result, Ok, Err}
use Rattle.sync_tokens.specs.declared.place.Place.{Place}
use Rattle.sync_syntax.specs.declared.fault.ParseFault.{ParseFault}
use Rattle.sync_syntax.specs.declared.fault.ParseFault.TheVariants.{Bad}
use Rattle.sync_syntax.specs.declared.tree.Program.{Program}
use Rattle.sync_resolve.specs.declared.fault.ResolveFault.{ResolveFault}
use Rattle.sync_resolve.specs.declared.fault.ResolveFault.TheVariants as resolve
use Rattle.sync_resolve.specs.Faults.{IsFirstFault}
use Rattle.sync_resolve.specs.Resolving.{faults}
use Rattle.config_check.specs.declared.function.FunctionWhy.{FunctionWhy}
use Rattle.config_check.specs.declared.function.FunctionWhy.TheVariants.{Syntax, UnknownName, WrongCount, Redeclared, ConstWritten}

-- a text was read as a program, and of all faults of its names this is the first
abbrev pub HasNameFault : Result Program ParseFault → ResolveFault → Type 0
HasNameFault read e = (p : Program) × (read ≡ Ok p) × IsFirstFault e (faults p)

-- a text that was read so is refused at this place, for this reason
abbrev pub IsRefusedAt : Result Program ParseFault → Place → FunctionWhy → Type 0
IsRefusedAt read place (Syntax why) = read ≡ Err (Bad (record { place = place; why = why }))
IsRefusedAt read place UnknownName = HasNameFault read (resolve.UnknownName place)
IsRefusedAt read place WrongCount = HasNameFault read (resolve.WrongCount place)
IsRefusedAt read place Redeclared = HasNameFault read (resolve.Redeclared place)
IsRefusedAt read place ConstWritten = HasNameFault read (resolve.ConstWritten place)
