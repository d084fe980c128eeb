use Rattle.std.proofs.Common.{◌≡◌, ◌≤◌, ◌+◌, ◌∙◌, ℕ, sym, ap, subst, arith, length, reverse}
use Rattle.sg_history.specs.History.{past}
use Rattle.sg_history.specs.Principals.{has_channel}
use Rattle.grant_history.specs.AppliedLog.{AppliedLog, changed_at}
use Rattle.grant_history.specs.Stands.{StandsFor}
use Rattle.grant_history.proofs.Applied.{kept_by_log, past_within}
use Rattle.grant_history.proofs.Reading.{user_channels}
use Rattle.grant_history.proofs.history.GrantHistory.changed.Goals as goal

pub returns-clause-same : goal.returns-clause-same
returns-clause-same c = λ entries stands k low high x.
    let store = c.self.inside.ledger.store in
    let kept = kept_by_log c.self.inside.ledger _ entries (subst (λ (h : AppliedLog). StandsFor h entries) (sym c.self.view_is) stands) c.self.invariant in
    let end : c.self.inside.applied ≡ c.args.self.now.applied = ap (λ (h : AppliedLog). h.applied) c.self.view_is in
    let within : k ≤ c.self.inside.applied = omega (arith, high, end) in
    sym (user_channels store _ k (past entries k) kept.is_kept.up_to (λ f. kept.held k f within) c.args.user.now x)
    ∙ c.changed.ensures.settled x k c.self.inside.applied low within
    ∙ user_channels store _ c.self.inside.applied (past entries c.self.inside.applied) kept.is_kept.up_to (λ f. kept.held c.self.inside.applied f (omega arith)) c.args.user.now x
    ∙ ap (λ (n : ℕ). has_channel (past entries n) c.args.user.now x) end

pub returns-clause-within : goal.returns-clause-within
returns-clause-within c =
    let n = length (past (reverse c.self.inside.index) c.self.inside.applied) in
    let low : n ≤ c.self.inside.applied = past_within (reverse c.self.inside.index) c.self.inside.applied in
    let end : c.self.inside.applied ≡ c.args.self.now.applied = ap (λ (h : AppliedLog). h.applied) c.self.view_is in
    omega (arith, c.changed.ensures.within (n + 1) c.self.invariant.is_kept.up_to, low, end)

pub returns-clause-last : goal.returns-clause-last
returns-clause-last c = c.changed.ensures.last ∙ ap (λ (h : AppliedLog). changed_at h.changed c.args.user.now) c.self.view_is
