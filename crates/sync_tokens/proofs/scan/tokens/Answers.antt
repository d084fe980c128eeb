use Rattle.std.proofs.Common.{◌∙◌}
use Rattle.sync_tokens.specs.Spellable.{AreTokens}
use Rattle.sync_tokens.proofs.Spells.{if_ok_also, cut_tokens}
use Rattle.sync_tokens.proofs.scan.tokens.Goals as goal

pub returns-clause-spellable : goal.returns-clause-spellable
returns-clause-spellable c =
    if_ok_also c.tokens_in.result _ (λ all. AreTokens all.items) c.tokens_in.ensures
    (λ all is. cut_tokens c.args.text.now c.as_slice.result.now all.items c.utf8.text (c.as_slice.ensures.value ∙ c.in_ok-chars.ensures) is)
