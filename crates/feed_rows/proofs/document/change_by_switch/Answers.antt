use Rattle.std.proofs.Common.{◌≡◌, ◌∙◌, Bool, false, sym, ap, subst, arith, Option, Some, None, length}
use Rattle.std.specs.Prelude.{◌-◌, max}
use Rattle.sg_history.specs.Feed.{row_with}
use Rattle.grant_history.specs.Periods.{periods_have}
use Rattle.feed_rows.specs.Known.{from_on, since_renewed, view_when}
use Rattle.feed_rows.specs.Latest.{winner_in}
use Rattle.feed_rows.specs.inner.Shown.{IsLastSwitch, is_shown}
use Rattle.feed_rows.specs.declared.shown.Switch.{Switch}
use Rattle.feed_rows.proofs.FromPlaces.{from_with, settled_from}
use Rattle.feed_rows.proofs.Settled.{settled_some}
use Rattle.feed_rows.proofs.document.change_by_switch.Goals as goal

pub returns-in-None : goal.returns-in-None
returns-in-None c = λ viewer from es doc known last.
    let filter = viewer.filter.now in
    let latest = c.args.latest in
    let since : latest.since ≡ length (since_renewed es doc) = known.since in
    let same : IsLastSwitch (is_shown viewer.periods.now filter latest.effects.channels.now) (max latest.since (from - 1)) (length es) None =
    subst (λ (s : Option Switch). IsLastSwitch (is_shown viewer.periods.now filter latest.effects.channels.now) (max latest.since (from - 1)) (length es) s) c.in-None.is last in
    known.row
    ∙ settled_from (periods_have viewer.periods.now) viewer.user.now filter doc c.currents.ensures.unwritten (winner_in latest) from es known.is_viewer.dated (sym known.state) (λ j a f b. same j (omega (arith, since, a, f)) b)

pub returns-in-Some : goal.returns-in-Some
returns-in-Some c = λ viewer from es doc known last.
    let filter = viewer.filter.now in
    let latest = c.args.latest in
    let winner = winner_in latest in
    let by = c.in-Some.switch.by in
    let since : latest.since ≡ length (since_renewed es doc) = known.since in
    let found : IsLastSwitch (is_shown viewer.periods.now filter latest.effects.channels.now) (max latest.since (from - 1)) (length es) (Some c.in-Some.switch) =
    subst (λ (s : Option Switch). IsLastSwitch (is_shown viewer.periods.now filter latest.effects.channels.now) (max latest.since (from - 1)) (length es) s) c.in-Some.is last in
    from_with from by false (view_when c.in-Some.switch.is_shown winner) doc (Some winner) (omega (arith, found.0))
    ∙ ap (from_on from)
    (ap (λ (b : Bool). row_with by false (view_when b winner) doc (Some winner)) found.2
    ∙ settled_some (periods_have viewer.periods.now) viewer.user.now filter doc c.currents.ensures.unwritten winner es by known.is_viewer.dated (sym known.state) (omega (arith, since, found.0)) found.1 found.3 found.4)
