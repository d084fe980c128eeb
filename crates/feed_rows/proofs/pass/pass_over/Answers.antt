use Rattle.std.proofs.Common.{◌∙◌, ◌+◌, ◌<◌, length, arith}
use Rattle.grant_history.specs.Periods.{periods_have}
use Rattle.feed_rows.proofs.Places.{dated_within}
use Rattle.feed_rows.proofs.pass.pass_over.Goals as goal

pub loop-i-init : goal.loop-i-init
loop-i-init c = c.start-pass.ensures c.args.viewer.now

pub take-requires-clause-state : goal.take-requires-clause-state
take-requires-clause-state c =
    let i = c.loop-i.i in
    let below : i < length c.args.entries.now = omega arith in
    c.written.ensures ∙ c.requires.states.written i below

pub take-requires-clause-viewer : goal.take-requires-clause-viewer
take-requires-clause-viewer c =
    let viewer = c.args.viewer.now in
    record {
      to_search = c.requires.viewer.to_search;
      dated = dated_within (periods_have viewer.periods.now) viewer.user.now c.args.entries.now (c.loop-i.i + 1) c.requires.viewer.dated;
    }
