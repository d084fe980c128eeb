use Rattle.sync_meaning.specs.inner.Arguments.{texts}
use Rattle.sync_meaning.proofs.Calls.{found_in, role_users_failed, given_failed, roles_done}
use Rattle.sync_meaning.proofs.builtin.role.Goals as goal

pub returns-in_err-users : goal.returns-in_err-users
returns-in_err-users c =
    role_users_failed c.args.place c.args.users.now c.args.state.now c.from_residual.result c.args.state.now c.in_err-users.field-0.0 c.from_residual.ensures.1
    c.args.roles.now c.in_err-users.ensures

pub returns-in_err-roles : goal.returns-in_err-roles
returns-in_err-roles c =
    given_failed c.args.place c.args.users.now c.args.state.now c.from_residual-in_err-roles.result c.args.state.now c.in_err-roles.field-0.0 c.from_residual-in_err-roles.ensures.1
    c.args.roles.now (texts c.in_ok-users.users.items) c.in_ok-users.ensures c.in_err-roles.ensures

pub returns : goal.returns
returns c =
    roles_done c.args.place c.args.users.now c.args.state.now c.give.result c.give.new.state c.args.roles.now (texts c.as_slice.result.now) (texts c.as_slice-2.result.now)
    (found_in _ c.in_ok-users.users.items c.as_slice.result.now c.as_slice.ensures.value c.in_ok-users.ensures)
    (found_in _ c.in_ok-roles.roles.items c.as_slice-2.result.now c.as_slice-2.ensures.value c.in_ok-roles.ensures)
    c.give.ensures
