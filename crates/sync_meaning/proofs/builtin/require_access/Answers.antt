use Rattle.std.proofs.Common.{◌∙◌, ap}
use Rattle.sync_meaning.specs.inner.Arguments.{texts}
use Rattle.sync_meaning.specs.Builtins.{passes_access}
use Rattle.sync_meaning.proofs.Calls.{access_failed, access_done}
use Rattle.sync_meaning.proofs.builtin.require_access.Goals as goal

pub returns-in_err-channels : goal.returns-in_err-channels
returns-in_err-channels c =
    access_failed c.args.place c.args.channels.now c.args.state.now c.from_residual.result c.args.state.now c.in_err-channels.field-0.0 c.from_residual.ensures.1 c.in_err-channels.ensures

pub returns : goal.returns
returns c =
    access_done c.args.place c.args.channels.now c.args.state.now c.unless_passing.result c.unless_passing.new.state (texts c.in_ok-channels.channels.items) c.passes_access-passes.result
    c.in_ok-channels.ensures (c.passes_access-passes.ensures ∙ ap (λ l. passes_access c.args.state.now.context (texts l)) c.as_slice.ensures.value) c.unless_passing.ensures
