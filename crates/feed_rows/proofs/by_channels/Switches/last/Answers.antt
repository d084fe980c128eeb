use Rattle.std.proofs.Common.{sym, subst, List, ℕ}
use Rattle.feed_rows.specs.inner.Shown.{IsLastSwitch, is_shown}
use Rattle.feed_rows.proofs.by_channels.Switches.last.Goals as goal

pub returns-clause-kept : goal.returns-clause-kept
returns-clause-kept c =
    c.in_ok-put.ensures c.args.viewer.now c.args.start c.args.to c.requires.kept
    (subst (λ (l : List (List ℕ)). IsLastSwitch (is_shown c.args.viewer.now.periods.now c.args.viewer.now.filter.now l) c.args.start c.args.to c.last_switch-last.result) (sym c.as_slice-names.ensures) c.last_switch-last.ensures)
