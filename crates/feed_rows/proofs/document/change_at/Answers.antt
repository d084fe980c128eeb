use Rattle.std.proofs.Common.{◌≡◌, ◌∙◌, ℕ, sym, ap, subst, refl, Option, Some, None}
use Rattle.std.specs.Prelude.{◌-◌, max}
use Rattle.feed_rows.specs.declared.document.Latest.{Latest}
use Rattle.feed_rows.specs.Known.{from_on}
use Rattle.feed_rows.specs.Latest.{current_in}
use Rattle.feed_rows.specs.PassAt.{IsKnown}
use Rattle.feed_rows.specs.inner.Shown.{IsLastSwitch, is_shown}
use Rattle.feed_rows.proofs.Settled.{settled_never}
use Rattle.feed_rows.proofs.document.change_at.Goals as goal

none_there : (o : Option Latest) → ((l : Latest) → o ≡ Some l → ⊥) → current_in o ≡ None
none_there None not = refl
none_there (Some l) not = absurd (not l refl)

pub returns-in_default-clause-change : goal.returns-in_default-clause-change
returns-in_default-clause-change c = λ es doc at known.
    known.row ∙ ap (from_on c.args.from) (settled_never c.currents.ensures.unwritten es c.args.viewer.now.user.now c.args.viewer.now.filter.now doc (sym known.state ∙ none_there c.args.document.latest c.in_default.not-Some))

pub returns-clause-change : goal.returns-clause-change
returns-clause-change c = λ es doc at known.
    let viewer = c.args.viewer.now in
    let latest = c.in-Some.latest in
    let test = is_shown viewer.periods.now viewer.filter.now latest.effects.channels.now in
    c.change_by_switch.ensures viewer c.args.from es doc
    (subst (λ (o : Option Latest). IsKnown viewer c.args.from es doc o c.args.document.change) c.in-Some.is known)
    (subst (λ (n : ℕ). IsLastSwitch test (max latest.since (c.args.from - 1)) n c.switch_after-switch.result) at (c.switch_after-switch.ensures test (c.args.from - 1) c.args.to
    (subst (λ (n : ℕ). IsLastSwitch test n c.args.to c.in_ok-last.last) c.saturating_sub-start.ensures c.in_ok-last.ensures.last)))
