-- exit numbers
use Rattle.std.specs.Prelude.{ℕ}
use Rattle.command_line.specs.declared.status.Status.{Status}
use Rattle.command_line.specs.declared.status.Status.TheVariants.{Ok, BadWords, BadInput, ReadFault, WriteFault, DoorFault, Memory}

-- the number with which the program ends at a status
abbrev pub exit_number : Status → ℕ
exit_number Ok = 0
exit_number BadWords = 1
exit_number (BadInput file place why) = 2
exit_number ReadFault = 3
exit_number WriteFault = 4
exit_number DoorFault = 5
exit_number Memory = 6
