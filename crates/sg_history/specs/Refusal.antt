-- refusals of a file
use Rattle.sg_history.specs.declared.fault.ReadLog.{ReadLog}
use Rattle.sg_history.specs.declared.fault.ReadLog.TheVariants as file

-- a refusal of a file other than that memory ran out has this cause
abbrev pub RefusesLog : ReadLog → Type 0 → Type 0
RefusesLog (file.Bad bad) cause = cause
RefusesLog file.Memory cause = Unit {0}
