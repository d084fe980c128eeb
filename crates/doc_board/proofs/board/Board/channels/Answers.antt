use Rattle.std.proofs.Common.{◌≡◌, ◌∙◌, ℕ, List, ap, sym, subst, length, reverse}
use Rattle.std.specs.Prelude.{IfSome}
use Rattle.std.proofs.lemmas.Result.{IfOk-weaker}
use Rattle.sg_history.specs.declared.entries.Entry.{Entry}
use Rattle.sg_history.specs.History.{among}
use Rattle.sg_history.specs.Principals.{exists, user_at, has_channel}
use Rattle.doc_board.specs.State.{State}
use Rattle.doc_board.proofs.board.Board.channels.Goals as goal

pub returns-clause-exists : goal.returns-clause-exists
returns-clause-exists c =
    let log = c.self.inside.storage.log.entries.list in
    let same : log ≡ c.args.self.now.log = ap (λ (s : State). s.log) c.self.view_is ∙ c.apply_grants.ensures.log in
    let end : c.self.inside.grants.applied ≡ length log = ap (λ (s : State). s.known) c.self.view_is ∙ c.in_ok-apply_grants.ensures.known ∙ sym (ap (λ (es : List Entry). length es) same) in
    IfOk-weaker c.channels_at_end.result _ _ (λ found it. it log c.self.invariant.1 end ∙ ap (λ (es : List Entry). exists (user_at (reverse es) c.args.user.now)) same) c.channels_at_end.ensures.exists

pub returns-clause-channels : goal.returns-clause-channels
returns-clause-channels c =
    let log = c.self.inside.storage.log.entries.list in
    let same : log ≡ c.args.self.now.log = ap (λ (s : State). s.log) c.self.view_is ∙ c.apply_grants.ensures.log in
    let end : c.self.inside.grants.applied ≡ length log = ap (λ (s : State). s.known) c.self.view_is ∙ c.in_ok-apply_grants.ensures.known ∙ sym (ap (λ (es : List Entry). length es) same) in
    IfOk-weaker c.channels_at_end.result _ _
    (λ found it. subst (λ (es : List Entry). IfSome found (λ channels. (channel : List ℕ) → among channels channel ≡ has_channel (reverse es) c.args.user.now channel)) same (it log c.self.invariant.1 end)) c.channels_at_end.ensures.channels
