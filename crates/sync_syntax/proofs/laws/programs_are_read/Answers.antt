use Rattle.sync_syntax.proofs.CompleteStatements.{programs_are_read}
use Rattle.sync_syntax.proofs.laws.programs_are_read.Goals as goal

pub returns : goal.returns
returns c = programs_are_read c.texts_have_tokens.ensures
