use Rattle.std.proofs.Common.{◌-◌, arith}
use Rattle.channel_cache.proofs.Changing.{on_ok}
use Rattle.channel_cache.proofs.Brought.{forward_write, winning_within}
use Rattle.channel_cache.proofs.Past.{got, index_high}
use Rattle.channel_cache.proofs.forward.take_write.Goals as goal

pub channels_of-channels-requires-clause-low : goal.channels_of-channels-requires-clause-low
channels_of-channels-requires-clause-low c = (winning_within c.args.index.now c.args.log.now.entries c.args.at c.requires.low c.requires.index c.args.winning c.requires.winning).0

pub channels_of-channels-requires-clause-high : goal.channels_of-channels-requires-clause-high
channels_of-channels-requires-clause-high c = (winning_within c.args.index.now c.args.log.now.entries c.args.at c.requires.low c.requires.index c.args.winning c.requires.winning).1

pub returns-clause-ok : goal.returns-clause-ok
returns-clause-ok c =
    let entries = c.args.log.now.entries in
    let one = got entries (c.args.at - 1) (omega (arith, c.requires.low, index_high c.args.index.now entries c.args.at c.requires.index)) in
    on_ok c.enter_all.result _ _ (λ changed.
    forward_write c.args.index.now entries c.args.at c.requires.low c.requires.index c.currents.ensures.unwritten
    c.args.lists.now.entries c.enter_all.new.lists.entries c.channels_of-channels.result.now c.args.winning c.requires.winning c.channels_of-channels.ensures.channels changed one.0 one.1)
    c.enter_all.ensures.ok
