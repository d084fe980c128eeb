-- What only proofs need besides: faults that were looked for.
use Rattle.std.specs.Prelude.{◌≡◌, ℕ, List, [], Option, Some, None, Result, Ok}
use Rattle.serde_json.specs.Data.{Data}
use Rattle.sync_tokens.specs.declared.place.Place.{Place}
use Rattle.sync_syntax.specs.declared.fault.ParseFault.{ParseFault}
use Rattle.sync_syntax.specs.declared.tree.Program.{Program}
use Rattle.sync_syntax.specs.Statements.{parsed}
use Rattle.sync_resolve.specs.declared.fault.ResolveFault.{ResolveFault}
use Rattle.sync_resolve.specs.declared.fault.ResolveFault.TheVariants as resolve
use Rattle.sync_resolve.specs.Resolving.{faults}
use Rattle.gateway_config.specs.Members.{config_json}
use Rattle.config_check.specs.declared.function.FunctionFault.{FunctionFault}
use Rattle.config_check.specs.declared.function.FunctionWhy.{FunctionWhy}
use Rattle.config_check.specs.declared.function.FunctionWhy.TheVariants.{Syntax, UnknownName, WrongCount, Redeclared, ConstWritten}
use Rattle.config_check.specs.Function.{IsRefusedAt}
use Rattle.config_check.specs.Verdict.{function_text}

-- the fault of a name is said by this place and reason
abbrev pub IsNamedBy : ResolveFault → Place → FunctionWhy → Type 0
IsNamedBy e place (Syntax why) = ⊥
IsNamedBy e place UnknownName = e ≡ resolve.UnknownName place
IsNamedBy e place WrongCount = e ≡ resolve.WrongCount place
IsNamedBy e place Redeclared = e ≡ resolve.Redeclared place
IsNamedBy e place ConstWritten = e ≡ resolve.ConstWritten place

-- the fault that was found of a text that was read so; none where it is a program whose names all stand for something
abbrev pub IsFoundOf : Result Program ParseFault → Option FunctionFault → Type 0
IsFoundOf read None = (p : Program) × (read ≡ Ok p) × (faults p ≡ [])
IsFoundOf read (Some fault) = IsRefusedAt read fault.place fault.why

-- the fault that was found of the function's text, where the bytes are JSON
abbrev pub IsFoundIn : List ℕ → Option FunctionFault → Type 0
IsFoundIn bytes found = (d : Data) → config_json bytes ≡ Some d → IsFoundOf (parsed (function_text d)) found
