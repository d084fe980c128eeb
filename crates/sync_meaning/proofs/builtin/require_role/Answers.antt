use Rattle.std.proofs.Common.{◌∙◌, ap}
use Rattle.sync_meaning.specs.inner.Arguments.{texts}
use Rattle.sync_meaning.specs.Builtins.{passes_role}
use Rattle.sync_meaning.proofs.Calls.{role_failed, role_done}
use Rattle.sync_meaning.proofs.builtin.require_role.Goals as goal

pub returns-in_err-roles : goal.returns-in_err-roles
returns-in_err-roles c =
    role_failed c.args.place c.args.roles.now c.args.state.now c.from_residual.result c.args.state.now c.in_err-roles.field-0.0 c.from_residual.ensures.1 c.in_err-roles.ensures

pub returns : goal.returns
returns c =
    role_done c.args.place c.args.roles.now c.args.state.now c.unless_passing.result c.unless_passing.new.state (texts c.in_ok-roles.roles.items) c.passes_role-passes.result
    c.in_ok-roles.ensures (c.passes_role-passes.ensures ∙ ap (λ l. passes_role c.args.state.now.context (texts l)) c.as_slice.ensures.value) c.unless_passing.ensures
