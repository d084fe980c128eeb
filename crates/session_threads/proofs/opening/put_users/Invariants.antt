use Rattle.std.proofs.Common.{take}
use Rattle.session_threads.specs.Opening.{IsUserEntry}
use Rattle.session_threads.specs.Opened.{HasOwnLog, IsGrownByAll, IsOpened}
use Rattle.session_threads.proofs.opening.put_users.Given as goal

abbrev pub invariant-loop-user : goal.invariant-loop-user
invariant-loop-user l = record {
  grown : IsGrownByAll IsUserEntry (take l.user-index l.users) l.initial.ground.board.log l.ground.board.log;
  own : HasOwnLog l.ground;
  opened : IsOpened l.ground.board.log;
}
