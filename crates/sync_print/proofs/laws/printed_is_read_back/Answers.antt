use Rattle.sync_print.proofs.PrintedTexts.{printed_is_read_back}
use Rattle.sync_print.proofs.laws.printed_is_read_back.Goals as goal

pub returns : goal.returns
returns c = printed_is_read_back c.texts_have_tokens.ensures
