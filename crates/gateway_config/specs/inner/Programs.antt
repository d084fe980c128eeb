-- What only proofs need besides: a program that was looked for.
use Rattle.std.specs.Prelude.{◌≡◌, Option, Some, None, Result, Ok, Err}
use Rattle.sync_syntax.specs.declared.fault.ParseFault.{ParseFault}
use Rattle.sync_syntax.specs.declared.tree.Program.{Program}

-- the program that a text was read as; none where it is none
abbrev pub IsFoundIn : Result Program ParseFault → Option Program → Type 0
IsFoundIn read None = (e : ParseFault) × (read ≡ Err e)
IsFoundIn read (Some p) = read ≡ Ok p
