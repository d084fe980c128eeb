use Rattle.std.proofs.Common.{IsUtf8, subst, List, ℕ}
use Rattle.std.specs.List.{All}
use Rattle.sg_names.specs.declared.grants.Grant.{Grant}
use Rattle.sg_names.specs.declared.role_grants.RoleGrant.{RoleGrant}
use Rattle.sg_names.specs.Grants.{grant_text}
use Rattle.sg_names.specs.RoleGrants.{role_grant_text}
use Rattle.board_steps.proofs.NameTexts.{names_utf8, list_utf8}
use Rattle.board_steps.proofs.texts.pass_effects.Goals as goal

pub returns-clause-channels : goal.returns-clause-channels
returns-clause-channels c = names_utf8 c.args.effects.now.channels (subst (λ (names : List (List ℕ)). All (λ name. IsUtf8 name) names) c.as_slice.ensures c.pass_channels.ensures)

pub returns-clause-grants : goal.returns-clause-grants
returns-clause-grants c =
    list_utf8 (λ (g : Grant). grant_text g) c.args.effects.now.grants (subst (λ (gs : List Grant). All (λ g. IsUtf8 (grant_text g)) gs) c.as_slice-2.ensures c.pass_grants.ensures)

pub returns-clause-roles : goal.returns-clause-roles
returns-clause-roles c =
    list_utf8 (λ (g : RoleGrant). role_grant_text g) c.args.effects.now.roles (subst (λ (gs : List RoleGrant). All (λ g. IsUtf8 (role_grant_text g)) gs) c.as_slice-3.ensures c.pass_roles.ensures)
