use Rattle.std.proofs.Common.{◌∙◌, arith, sym}
use Rattle.sg_history.proofs.SyncTexts.{sync_text_is}
use Rattle.sg_history.proofs.sync_text.SyncTextGrammarTextGrammar.is_text.Goals as goal

pub returns : goal.returns
returns c = c.has_length.ensures ∙ sym (sync_text_is c.args.text.now (λ k. omega (arith, c.type_inv.text k)))
