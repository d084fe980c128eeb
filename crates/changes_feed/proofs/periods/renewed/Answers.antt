use Rattle.std.proofs.Common.{◌∙◌, ℕ, ap, sym, subst, arith, max}
use Rattle.grant_history.specs.Periods.{ArePeriods}
use Rattle.changes_feed.specs.Switches.{has_at}
use Rattle.changes_feed.proofs.UserPeriods.{still}
use Rattle.changes_feed.proofs.periods.renewed.Goals as goal

pub returns-clause-of : goal.returns-clause-of
returns-clause-of c = λ entries stands is.
    let periods = c.args.taken.periods in
    let test = has_at entries c.args.user.now in
    let place = c.max.ensures ∙ ap (max c.args.taken.place) c.applied.ensures in
    record {
      within = omega (arith, stands.within, is.within, place);
      periods = subst (λ (n : ℕ). ArePeriods periods test n) (sym place)
          (still test periods c.args.taken.place c.args.grants.now.applied c.args.changed c.if-taken-changed.false
          (λ k low high x. c.requires entries stands k low high x) is.periods);
      in_order = is.in_order;
    }
