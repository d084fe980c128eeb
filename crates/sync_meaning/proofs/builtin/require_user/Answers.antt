use Rattle.std.proofs.Common.{◌∙◌, ap}
use Rattle.sync_meaning.specs.inner.Arguments.{texts}
use Rattle.sync_meaning.specs.Builtins.{passes_user}
use Rattle.sync_meaning.proofs.Calls.{user_failed, user_done}
use Rattle.sync_meaning.proofs.builtin.require_user.Goals as goal

pub returns-in_err-names : goal.returns-in_err-names
returns-in_err-names c =
    user_failed c.args.place c.args.users.now c.args.state.now c.from_residual.result c.args.state.now c.in_err-names.field-0.0 c.from_residual.ensures.1 c.in_err-names.ensures

pub returns : goal.returns
returns c =
    user_done c.args.place c.args.users.now c.args.state.now c.unless_passing.result c.unless_passing.new.state (texts c.in_ok-names.names.items) c.passes_user-passes.result
    c.in_ok-names.ensures (c.passes_user-passes.ensures ∙ ap (λ l. passes_user c.args.state.now.context (texts l)) c.as_slice.ensures.value) c.unless_passing.ensures
