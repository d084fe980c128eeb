use Rattle.std.proofs.Common.{IsUtf8, List, arith, subst}
use Rattle.std.specs.List.{All}
use Rattle.std.proofs.lemmas.List.{take_all}
use Rattle.std.proofs.lemmas.List.Elements.{All-more}
use Rattle.sg_names.specs.declared.role_grants.RoleGrant.{RoleGrant}
use Rattle.sg_names.specs.RoleGrants.{role_grant_text}
use Rattle.board_steps.proofs.texts.pass_roles.Goals as goal

pub loop-grant-preserved : goal.loop-grant-preserved
loop-grant-preserved c =
    All-more (λ (t : RoleGrant). IsUtf8 (role_grant_text t)) c.args.list.now c.loop-grant.grant-index c.grant-item.result c.loop-grant-test.true c.loop-grant.invariant
    (subst (λ (t : RoleGrant). IsUtf8 (role_grant_text t)) c.grant-item.is c.pass_role.ensures)

pub returns : goal.returns
returns c =
    subst (λ (xs : List RoleGrant). All (λ (t : RoleGrant). IsUtf8 (role_grant_text t)) xs) (take_all c.loop-grant.grant-index c.args.list.now (omega (arith, c.loop-grant-test.false))) c.loop-grant.invariant
