use Rattle.sync_meaning.specs.inner.Arguments.{texts}
use Rattle.sync_meaning.proofs.Calls.{found_in, grantees_failed, granted_failed, grants_done}
use Rattle.sync_meaning.proofs.builtin.access.Goals as goal

pub returns-in_err-grantees : goal.returns-in_err-grantees
returns-in_err-grantees c =
    grantees_failed c.args.place c.args.users.now c.args.state.now c.from_residual.result c.args.state.now c.in_err-grantees.field-0.0 c.from_residual.ensures.1
    c.args.channels.now c.in_err-grantees.ensures

pub returns-in_err-channels : goal.returns-in_err-channels
returns-in_err-channels c =
    granted_failed c.args.place c.args.users.now c.args.state.now c.from_residual-in_err-channels.result c.args.state.now c.in_err-channels.field-0.0 c.from_residual-in_err-channels.ensures.1
    c.args.channels.now (texts c.in_ok-grantees.grantees.items) c.in_ok-grantees.ensures c.in_err-channels.ensures

pub returns : goal.returns
returns c =
    grants_done c.args.place c.args.users.now c.args.state.now c.grant.result c.grant.new.state c.args.channels.now (texts c.as_slice.result.now) (texts c.as_slice-2.result.now)
    (found_in _ c.in_ok-grantees.grantees.items c.as_slice.result.now c.as_slice.ensures.value c.in_ok-grantees.ensures)
    (found_in _ c.in_ok-channels.channels.items c.as_slice-2.result.now c.as_slice-2.ensures.value c.in_ok-channels.ensures)
    c.grant.ensures
