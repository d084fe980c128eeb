use Rattle.std.proofs.Common.{◌∙◌, ◌≤◌, sym, ap, arith, subst}
use Rattle.sg_names.specs.declared.grants.Grantee.TheVariants.{User}
use Rattle.sg_history.specs.History.{past}
use Rattle.grant_tracks.specs.declared.things.What.TheVariants as what
use Rattle.grant_history.specs.AppliedLog.{AppliedLog}
use Rattle.grant_history.specs.Facts.{fact}
use Rattle.grant_history.specs.Stands.{StandsFor}
use Rattle.grant_history.proofs.Applied.{kept_by_log}
use Rattle.grant_history.proofs.Has.{exists_held}
use Rattle.grant_history.proofs.history.GrantHistory.exists_at.Goals as goal

pub returns : goal.returns
returns c = λ entries stands.
    let kept = kept_by_log c.self.inside.ledger _ entries (subst (λ (h : AppliedLog). StandsFor h entries) (sym c.self.view_is) stands) c.self.invariant in
    let within : c.args.k ≤ c.self.inside.applied = omega (arith, c.requires, ap (λ (h : AppliedLog). h.applied) c.self.view_is) in
    c.user_exists.ensures ∙ kept.held c.args.k (fact (User c.args.user.now) what.Exists) within ∙ exists_held (past entries c.args.k) (User c.args.user.now)
