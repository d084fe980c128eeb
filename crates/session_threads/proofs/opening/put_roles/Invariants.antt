use Rattle.std.proofs.Common.{take}
use Rattle.session_threads.specs.Opening.{IsRoleEntry}
use Rattle.session_threads.specs.Opened.{HasOwnLog, IsGrownByAll, IsOpened}
use Rattle.session_threads.proofs.opening.put_roles.Given as goal

abbrev pub invariant-loop-role : goal.invariant-loop-role
invariant-loop-role l = record {
  grown : IsGrownByAll IsRoleEntry (take l.role-index l.roles) l.initial.ground.board.log l.ground.board.log;
  own : HasOwnLog l.ground;
  opened : IsOpened l.ground.board.log;
}
