use Rattle.sync_meaning.specs.inner.Arguments.{texts}
use Rattle.sync_meaning.specs.Builtins.{all_channels}
use Rattle.std.proofs.Common.{[]}
use Rattle.sync_meaning.proofs.Calls.{found_in, channels_failed, channels_done}
use Rattle.sync_meaning.proofs.builtin.channel.Goals as goal

pub returns-in_err-channels : goal.returns-in_err-channels
returns-in_err-channels c =
    channels_failed c.args.place c.args.values.now c.args.state.now c.from_residual.result c.args.state.now c.in_err-channels.field-0.0 c.from_residual.ensures.1 c.in_err-channels.ensures

pub returns : goal.returns
returns c =
    channels_done c.args.place c.args.values.now c.args.state.now c.put_into.result c.put_into.new.state (texts c.as_slice.result.now)
    (found_in (all_channels c.args.place [] c.args.values.now) c.in_ok-channels.channels.items c.as_slice.result.now c.as_slice.ensures.value c.in_ok-channels.ensures)
    c.put_into.ensures
