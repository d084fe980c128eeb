use Rattle.std.proofs.Common.{ℕ, sym, subst, arith}
use Rattle.grant_history.specs.Periods.{ArePeriods}
use Rattle.changes_feed.specs.Switches.{has_at}
use Rattle.changes_feed.proofs.periods.take_anew.Goals as goal

pub returns-clause-of : goal.returns-clause-of
returns-clause-of c = λ entries stands.
    let periods = c.in_ok-periods.periods in
    record {
      within = omega (arith, stands.within, c.applied.ensures);
      periods = subst (λ (n : ℕ). ArePeriods periods (has_at entries c.args.user.now) n) (sym c.applied.ensures) (c.in_ok-periods.ensures.periods entries stands);
      in_order = c.in_ok-periods.ensures.in_order;
    }
