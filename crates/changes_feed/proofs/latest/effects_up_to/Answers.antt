use Rattle.std.proofs.Common.{◌∙◌, sym, arith}
use Rattle.sg_history.specs.History.{past}
use Rattle.channel_cache.proofs.Past.{index_high, mark_within}
use Rattle.changes_feed.proofs.Reading.{marked, unmarked}
use Rattle.changes_feed.proofs.latest.effects_up_to.Goals as goal

pub entry-requires-clause-low : goal.entry-requires-clause-low
entry-requires-clause-low c =
    let within = mark_within c.args.index.now c.args.log.now.entries c.args.to c.requires.index c.args.seq c.requires.high
    (c.marks.ensures.after (past c.args.log.now.entries c.args.to)) (c.marks.ensures.within (past c.args.log.now.entries c.args.to)) c.in-Some.place (sym c.marked.ensures ∙ c.in-Some.is) in
    omega (arith, within.0)

pub entry-requires-clause-high : goal.entry-requires-clause-high
entry-requires-clause-high c =
    let within = mark_within c.args.index.now c.args.log.now.entries c.args.to c.requires.index c.args.seq c.requires.high
    (c.marks.ensures.after (past c.args.log.now.entries c.args.to)) (c.marks.ensures.within (past c.args.log.now.entries c.args.to)) c.in-Some.place (sym c.marked.ensures ∙ c.in-Some.is) in
    omega (arith, within.1, index_high c.args.index.now c.args.log.now.entries c.args.to c.requires.index)

pub returns-in-None-clause-effects : goal.returns-in-None-clause-effects
returns-in-None-clause-effects c =
    unmarked c.args.index.now c.args.log.now.entries c.args.to c.requires.index c.args.seq c.requires.low c.requires.high c.args.write.now c.requires.write c.marks.ensures.effects
    c.recorded.result (sym c.marked.ensures ∙ c.in-None.is) c.recorded.ensures.effects c.recorded.ensures.since

pub returns-in-Some-clause-effects : goal.returns-in-Some-clause-effects
returns-in-Some-clause-effects c =
    let within = mark_within c.args.index.now c.args.log.now.entries c.args.to c.requires.index c.args.seq c.requires.high
    (c.marks.ensures.after (past c.args.log.now.entries c.args.to)) (c.marks.ensures.within (past c.args.log.now.entries c.args.to)) c.in-Some.place (sym c.marked.ensures ∙ c.in-Some.is) in
    marked c.args.index.now c.args.log.now.entries c.args.to c.requires.index c.args.seq c.requires.low c.requires.high c.args.write.now c.requires.write c.marks.ensures.effects
    c.of_marked.result c.in-Some.place (sym c.marked.ensures ∙ c.in-Some.is) c.entry.result.now c.entry.ensures.entry (omega (arith, within.0)) within.1 c.of_marked.ensures.effects c.of_marked.ensures.since
