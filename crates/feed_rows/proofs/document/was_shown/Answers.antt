use Rattle.std.proofs.Common.{◌∙◌, sym, ap, length}
use Rattle.std.specs.Prelude.{is_some, Option}
use Rattle.sg_history.specs.View.{Shown}
use Rattle.feed_rows.specs.Latest.{current_in, winner_in}
use Rattle.grant_history.specs.Periods.{periods_have}
use Rattle.feed_rows.proofs.Settled.{Test, view_now, shown_some}
use Rattle.feed_rows.proofs.document.was_shown.Goals as goal

pub returns-in-Some : goal.returns-in-Some
returns-in-Some c = λ es doc at viewer is.
    let has = periods_have c.args.viewer.now.periods.now in
    let filter = c.args.viewer.now.filter.now in
    let now = winner_in c.in-Some.latest in
    let current_is = sym is ∙ ap current_in c.in-Some.is in
    c.lasting_shown.ensures.now
    ∙ ap (Test has filter now) at
    ∙ shown_some (Test has filter now (length es)) now
    ∙ sym (ap (λ (v : Option Shown). is_some v) (view_now has c.args.viewer.now.user.now filter doc es now viewer.dated current_is))
