use Rattle.std.proofs.Common.{◌≡◌, drop}
use Rattle.ws_door.specs.Upgrades.{user_with}
use Rattle.ws_door.proofs.users.user_with.Given as goal

abbrev pub invariant-loop-user : goal.invariant-loop-user
invariant-loop-user l = user_with l.session (drop l.user-index l.users) ≡ user_with l.session l.users
