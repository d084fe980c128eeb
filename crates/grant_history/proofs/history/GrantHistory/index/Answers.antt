use Rattle.std.proofs.Common.{sym, subst, ap, ℕ}
use Rattle.grant_history.specs.AppliedLog.{AppliedLog}
use Rattle.grant_history.specs.Store.{last_changes}
use Rattle.grant_history.specs.Stands.{IsIndexed, StandsFor}
use Rattle.grant_history.proofs.history.GrantHistory.index.Goals as goal

pub returns-clause-first : goal.returns-clause-first
returns-clause-first c = λ entries stands.
    let stood : StandsFor (record { applied = c.self.inside.applied; index = c.self.inside.index; changed = last_changes c.self.inside.ledger.store }) entries = subst (λ (h : AppliedLog). StandsFor h entries) (sym c.self.view_is) stands in
    subst (λ (n : ℕ). IsIndexed c.self.inside.index entries n) (ap (λ (h : AppliedLog). h.applied) c.self.view_is) stood.index
