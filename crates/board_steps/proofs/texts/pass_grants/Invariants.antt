use Rattle.std.proofs.Common.{IsUtf8, take}
use Rattle.std.specs.List.{All}
use Rattle.sg_names.specs.Grants.{grant_text}
use Rattle.board_steps.proofs.texts.pass_grants.Given as goal

abbrev pub invariant-loop-grant : goal.invariant-loop-grant
invariant-loop-grant l = All (λ grant. IsUtf8 (grant_text grant)) (take l.grant-index l.list)
