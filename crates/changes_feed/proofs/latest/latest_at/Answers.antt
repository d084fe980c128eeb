use Rattle.std.proofs.Common.{subst, arith, List}
use Rattle.sg_history.specs.declared.entries.Entry.{Entry}
use Rattle.feed_rows.specs.LastChange.{IsWinning}
use Rattle.sg_history.specs.History.{past}
use Rattle.channel_cache.proofs.Past.{index_high}
use Rattle.changes_feed.proofs.Reading.{winning_high, winning_low, winning_there}
use Rattle.changes_feed.proofs.latest.latest_at.Goals as goal

pub write_at-write-requires-clause-low : goal.write_at-write-requires-clause-low
write_at-write-requires-clause-low c = winning_low c.args.index.now c.args.log.now.entries c.args.to c.requires.index c.requires.stands.0 c.args.document c.requires.stands.1

pub write_at-write-requires-clause-high : goal.write_at-write-requires-clause-high
write_at-write-requires-clause-high c =
    let high = winning_high c.args.index.now c.args.log.now.entries c.args.to c.requires.index c.requires.stands.0 c.args.document c.requires.stands.1 in
    omega (arith, high, index_high c.args.index.now c.args.log.now.entries c.args.to c.requires.index)

pub write_at-write-requires-clause-is_write : goal.write_at-write-requires-clause-is_write
write_at-write-requires-clause-is_write c = winning_there c.args.index.now c.args.log.now.entries c.args.to c.requires.index c.requires.stands.0 c.args.document c.requires.stands.1

pub effects_up_to-effects-requires-clause-low : goal.effects_up_to-effects-requires-clause-low
effects_up_to-effects-requires-clause-low c = winning_low c.args.index.now c.args.log.now.entries c.args.to c.requires.index c.requires.stands.0 c.args.document c.requires.stands.1

pub effects_up_to-effects-requires-clause-high : goal.effects_up_to-effects-requires-clause-high
effects_up_to-effects-requires-clause-high c = winning_high c.args.index.now c.args.log.now.entries c.args.to c.requires.index c.requires.stands.0 c.args.document c.requires.stands.1

pub returns-clause-latest : goal.returns-clause-latest
returns-clause-latest c = λ doc stands.
    let entries = c.args.log.now.entries in
    c.latest_by.ensures entries c.args.to doc (index_high c.args.index.now entries c.args.to c.requires.index) stands
    (subst (λ (l : List Entry). IsWinning (past l c.args.to) c.args.document.winning c.write_at-write.result.now c.effects_up_to-effects.result) c.write_at-write.ensures.log c.effects_up_to-effects.ensures.effects)
    c.write_at-write.ensures.write
