use Rattle.std.proofs.Common.{IsUtf8, take}
use Rattle.std.specs.List.{All}
use Rattle.sg_names.specs.RoleGrants.{role_grant_text}
use Rattle.board_steps.proofs.texts.pass_roles.Given as goal

abbrev pub invariant-loop-grant : goal.invariant-loop-grant
invariant-loop-grant l = All (λ grant. IsUtf8 (role_grant_text grant)) (take l.grant-index l.list)
