use Rattle.std.proofs.Common.{◌≡◌, ◌∙◌, rules, false, ℕ}
use Rattle.std.proofs.lemmas.Result.{IfOk-weaker}
use Rattle.grant_history.specs.inner.Gifts.{gifts_have}
use Rattle.grant_history.proofs.gifts.events_in.Goals as goal

pub returns-in-None : goal.returns-in-None
returns-in-None c =
    let none : (k : ℕ) → false ≡ gifts_have c.args.gifts.now c.args.channel.now k = λ k. search rules in
    IfOk-weaker c.of.result _ _ (λ events is k. is k ∙ none k) c.of.ensures
