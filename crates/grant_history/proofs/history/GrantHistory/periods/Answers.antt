use Rattle.std.proofs.Common.{◌∙◌, sym, ap, subst, List, ℕ}
use Rattle.sg_history.specs.History.{past}
use Rattle.sg_history.specs.Principals.{has_channel}
use Rattle.grant_history.specs.declared.periods.Period.{Period}
use Rattle.grant_history.specs.AppliedLog.{AppliedLog}
use Rattle.grant_history.specs.Periods.{AreInOrder, ArePeriods}
use Rattle.grant_history.specs.Store.{last_changes}
use Rattle.grant_history.specs.Stands.{StandsFor}
use Rattle.grant_history.proofs.Applied.{held_on, kept_by_log}
use Rattle.grant_history.proofs.Reading.{user_channels}
use Rattle.grant_history.proofs.history.GrantHistory.periods.Goals as goal

pub returns-clause-periods : goal.returns-clause-periods
returns-clause-periods c = λ entries stands.
    let stood : StandsFor (record { applied = c.self.inside.applied; index = c.self.inside.index; changed = last_changes c.self.inside.ledger.store }) entries = subst (λ (h : AppliedLog). StandsFor h entries) (sym c.self.view_is) stands in
    let kept = kept_by_log c.self.inside.ledger _ entries stood c.self.invariant in
    let end = ap (λ (h : AppliedLog). h.applied) c.self.view_is in
    subst (λ (l : List Period). ArePeriods l (λ x k. has_channel (past entries k) c.args.user.now x) c.args.self.now.applied) (sym c.from_vec.ensures)
    (subst (λ (n : ℕ). ArePeriods c.in_ok-periods.periods.items (λ x k. has_channel (past entries k) c.args.user.now x) n) end (record {
      says = λ x k le.
          c.in_ok-periods.ensures.says x k
          ∙ user_channels c.self.inside.ledger.store _ k (past entries k) kept.is_kept.up_to (λ f. kept.held k f le) c.args.user.now x;
      lasts = λ x k le.
          c.in_ok-periods.ensures.says x k
          ∙ user_channels c.self.inside.ledger.store _ k (past entries c.self.inside.applied) kept.is_kept.up_to
          (λ f. held_on c.self.inside.ledger entries c.self.inside.applied k f stood.within kept le) c.args.user.now x;
      have_places = c.in_ok-periods.ensures.have_places;
      apart = c.in_ok-periods.ensures.apart;
    }))

pub returns-clause-in_order : goal.returns-clause-in_order
returns-clause-in_order c = subst (λ (l : List Period). AreInOrder l) (sym c.from_vec.ensures) c.in_ok-periods.ensures.in_order
