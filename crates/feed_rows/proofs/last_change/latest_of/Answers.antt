use Rattle.std.proofs.Common.{◌∙◌, sym}
use Rattle.sg_history.specs.History.{past}
use Rattle.feed_rows.proofs.LastChanges.{latest_none, never_renewed}
use Rattle.feed_rows.proofs.last_change.latest_of.Goals as goal

pub returns-in-None : goal.returns-in-None
returns-in-None c = λ doc at.
    let none = latest_none c.args.entries.now c.args.to doc c.requires.within (sym at ∙ c.in-None.is) in
    (none, never_renewed c.currents.ensures.unwritten (past c.args.entries.now c.args.to) doc (sym none))

pub returns-in-Some : goal.returns-in-Some
returns-in-Some c = λ doc at. c.latest_at.ensures doc (sym c.in-Some.is ∙ at)
