use Rattle.std.proofs.Common.{arith, sym, subst, List, length}
use Rattle.sg_history.specs.History.{past}
use Rattle.sg_history.specs.Principals.{has_channel}
use Rattle.grant_history.specs.declared.periods.Period.{Period}
use Rattle.grant_history.specs.Periods.{AreInOrder, ArePeriods}
use Rattle.grant_history.proofs.Winning.{periods_are, whole_store}
use Rattle.grant_history.proofs.whole.periods_by.Goals as goal

pub returns-clause-periods : goal.returns-clause-periods
returns-clause-periods c =
    let entries = c.args.entries.now in
    subst (λ (l : List Period). ArePeriods l (λ x k. has_channel (past entries k) c.args.user.now x) (length entries)) (sym c.from_vec.ensures)
    (periods_are c.in_ok-store.store entries (length entries) (omega arith) (whole_store c.in_ok-store.store entries c.in_ok-store.ensures) c.args.user.now c.in_ok-periods.periods.items c.in_ok-periods.ensures)

pub returns-clause-in_order : goal.returns-clause-in_order
returns-clause-in_order c = subst (λ (l : List Period). AreInOrder l) (sym c.from_vec.ensures) c.in_ok-periods.ensures.in_order
