use Rattle.sync_print.proofs.PrintedTexts.{printed_is_parsed}
use Rattle.sync_print.proofs.laws.printed_is_parsed.Goals as goal

pub returns : goal.returns
returns c = printed_is_parsed c.texts_have_tokens.ensures c.programs_are_read.ensures c.grammar_is_unambiguous.ensures c.read_is_program.ensures
