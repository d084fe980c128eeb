use Rattle.std.proofs.Common.{◌≡◌, ◌∙◌, ℕ, Option, sym, ap, subst}
use Rattle.std.specs.Prelude.{◌-◌, max}
use Rattle.feed_rows.specs.declared.document.Latest.{Latest}
use Rattle.feed_rows.specs.Known.{from_on}
use Rattle.feed_rows.specs.Latest.{current_in}
use Rattle.feed_rows.specs.PassAt.{IsKnown}
use Rattle.feed_rows.specs.inner.Shown.{IsLastSwitch, is_shown}
use Rattle.feed_rows.proofs.Settled.{settled_never}
use Rattle.feed_rows.proofs.document.change_up_to.Goals as goal

pub returns-in-None : goal.returns-in-None
returns-in-None c = λ es doc at known.
    known.row ∙ ap (from_on c.args.from) (settled_never c.currents.ensures.unwritten es c.args.viewer.now.user.now c.args.viewer.now.filter.now doc (sym known.state ∙ ap current_in c.in-None.is))

pub returns-in-Some : goal.returns-in-Some
returns-in-Some c = λ es doc at known.
    let viewer = c.args.viewer.now in
    let start : c.max-start.result ≡ max c.in-Some.latest.since (c.args.from - 1) = c.max-start.ensures ∙ ap (max c.in-Some.latest.since) c.saturating_sub.ensures in
    c.change_by_switch.ensures viewer c.args.from es doc
    (subst (λ (o : Option Latest). IsKnown viewer c.args.from es doc o c.args.change) c.in-Some.is known)
    (subst (λ (n : ℕ). IsLastSwitch (is_shown viewer.periods.now viewer.filter.now c.in-Some.latest.effects.channels.now) (max c.in-Some.latest.since (c.args.from - 1)) n c.last_switch-switch.result) at
    (subst (λ (n : ℕ). IsLastSwitch (is_shown viewer.periods.now viewer.filter.now c.in-Some.latest.effects.channels.now) n c.args.to c.last_switch-switch.result) start c.last_switch-switch.ensures))
