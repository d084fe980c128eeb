use Rattle.sync_syntax.proofs.CompleteStatements.{grammar_is_unambiguous}
use Rattle.sync_syntax.proofs.laws.grammar_is_unambiguous.Goals as goal

pub returns : goal.returns
returns c = grammar_is_unambiguous c.texts_have_tokens.ensures
