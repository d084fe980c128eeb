use Rattle.std.proofs.Common.{◌∙◌, sym, arith}
use Rattle.sg_history.specs.History.{past}
use Rattle.channel_cache.proofs.Past.{index_high, mark_within, read_marked, read_written}
use Rattle.channel_cache.proofs.channels.channels_of.Goals as goal

pub read_write-requires-clause-high : goal.read_write-requires-clause-high
read_write-requires-clause-high c = omega (arith, c.requires.high, index_high c.args.index.now c.args.log.now.entries c.args.up_to c.requires.index)

pub read_mark-requires-clause-low : goal.read_mark-requires-clause-low
read_mark-requires-clause-low c =
    let within = mark_within c.args.index.now c.args.log.now.entries c.args.up_to c.requires.index c.args.write c.requires.high (c.marks.ensures.after (past c.args.log.now.entries c.args.up_to)) (c.marks.ensures.within (past c.args.log.now.entries c.args.up_to)) c.in-Some.marked (sym c.marked.ensures ∙ c.in-Some.is) in
    omega (arith, within.0)

pub read_mark-requires-clause-high : goal.read_mark-requires-clause-high
read_mark-requires-clause-high c =
    let within = mark_within c.args.index.now c.args.log.now.entries c.args.up_to c.requires.index c.args.write c.requires.high (c.marks.ensures.after (past c.args.log.now.entries c.args.up_to)) (c.marks.ensures.within (past c.args.log.now.entries c.args.up_to)) c.in-Some.marked (sym c.marked.ensures ∙ c.in-Some.is) in
    omega (arith, within.1, index_high c.args.index.now c.args.log.now.entries c.args.up_to c.requires.index)

pub returns-in-None-clause-channels : goal.returns-in-None-clause-channels
returns-in-None-clause-channels c =
    c.read_write.ensures.channels
    ∙ read_written c.marks.ensures.effects c.args.index.now c.args.log.now.entries c.args.up_to c.requires.index c.args.write c.requires.low c.requires.high (sym c.marked.ensures ∙ c.in-None.is)

pub returns-in-Some-clause-channels : goal.returns-in-Some-clause-channels
returns-in-Some-clause-channels c =
    let within = mark_within c.args.index.now c.args.log.now.entries c.args.up_to c.requires.index c.args.write c.requires.high (c.marks.ensures.after (past c.args.log.now.entries c.args.up_to)) (c.marks.ensures.within (past c.args.log.now.entries c.args.up_to)) c.in-Some.marked (sym c.marked.ensures ∙ c.in-Some.is) in
    c.read_mark.ensures.channels
    ∙ read_marked c.marks.ensures.effects c.args.index.now c.args.log.now.entries c.args.up_to c.requires.index c.args.write c.requires.low c.requires.high c.in-Some.marked
    (λ w at. c.marks.ensures.there (past c.args.log.now.entries c.args.up_to) w c.in-Some.marked at) (omega (arith, within.0)) within.1 (sym c.marked.ensures ∙ c.in-Some.is)
