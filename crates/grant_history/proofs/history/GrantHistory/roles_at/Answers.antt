use Rattle.std.proofs.Common.{◌∙◌, ◌≤◌, sym, subst, ap, arith, List, ℕ}
use Rattle.sg_history.specs.History.{among, past}
use Rattle.log_views.specs.Sorted.{AreSorted}
use Rattle.grant_history.specs.AppliedLog.{AppliedLog}
use Rattle.grant_history.specs.Stands.{StandsFor}
use Rattle.grant_history.proofs.Applied.{kept_by_log}
use Rattle.grant_history.proofs.Reading.{user_roles}
use Rattle.grant_history.proofs.history.GrantHistory.roles_at.Goals as goal

pub returns-clause-roles : goal.returns-clause-roles
returns-clause-roles c = λ entries stands x.
    let kept = kept_by_log c.self.inside.ledger _ entries (subst (λ (h : AppliedLog). StandsFor h entries) (sym c.self.view_is) stands) c.self.invariant in
    let within : c.args.k ≤ c.self.inside.applied = omega (arith, c.requires, ap (λ (h : AppliedLog). h.applied) c.self.view_is) in
    ap (λ (l : List (List ℕ)). among l x) c.from_vec.ensures ∙ c.in_ok-roles.ensures.among x
    ∙ user_roles c.self.inside.ledger.store _ c.args.k (past entries c.args.k) kept.is_kept.up_to (λ f. kept.held c.args.k f within) c.args.user.now x

pub returns-clause-sorted : goal.returns-clause-sorted
returns-clause-sorted c = subst (λ (l : List (List ℕ)). AreSorted l) (sym c.from_vec.ensures) c.in_ok-roles.ensures.sorted
