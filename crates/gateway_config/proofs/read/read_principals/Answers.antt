use Rattle.std.proofs.Common.{[], ◌∷◌, rules}
use Rattle.gateway_config.proofs.Firsts.{both_parts, first_part, one_named, one_none, second_part}
use Rattle.gateway_config.specs.inner.Objects.{members_of, roles_test, users_test}
use Rattle.gateway_config.proofs.read.read_principals.Goals as goal

pub returns-in_err-roles : goal.returns-in_err-roles
returns-in_err-roles c =
    let ms = members_of c.args.object.now in
    let path = c.args.object.now.path.now in
    let fault_is = first_part (roles_test path ms ∷ []) (users_test path ms ∷ []) c.in_err-roles.field-0.0 (one_named (roles_test path ms) c.in_err-roles.field-0.0 c.in_err-roles.ensures) in
    search (rules, fault_is)

pub returns-in_err-users : goal.returns-in_err-users
returns-in_err-users c =
    let ms = members_of c.args.object.now in
    let path = c.args.object.now.path.now in
    let fault_is = second_part (roles_test path ms ∷ []) (users_test path ms ∷ []) c.in_err-users.field-0.0 (one_none (roles_test path ms) c.in_ok-roles.ensures.0) (one_named (users_test path ms) c.in_err-users.field-0.0 c.in_err-users.ensures) in
    search (rules, fault_is)

pub returns : goal.returns
returns c =
    let ms = members_of c.args.object.now in
    let path = c.args.object.now.path.now in
    let none = both_parts (roles_test path ms ∷ []) (users_test path ms ∷ []) (one_none (roles_test path ms) c.in_ok-roles.ensures.0) (one_none (users_test path ms) c.in_ok-users.ensures.0) in
    search (rules, none)
