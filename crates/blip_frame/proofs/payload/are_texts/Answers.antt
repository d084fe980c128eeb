use Rattle.std.proofs.Common.{sym, ◌∙◌}
use Rattle.std.proofs.lemmas.Str.{is_utf8-from_IsUtf8}
use Rattle.blip_frame.proofs.Blocks.{texts_utf8, not_utf8}
use Rattle.blip_frame.proofs.payload.are_texts.Goals as goal

pub returns-in-Ok : goal.returns-in-Ok
returns-in-Ok c = sym (texts_utf8 c.args.block.now c.requires ∙ is_utf8-from_IsUtf8 c.args.block.now c.in-Ok.ensures.cases.1)

pub returns-in-Err : goal.returns-in-Err
returns-in-Err c = sym (texts_utf8 c.args.block.now c.requires ∙ not_utf8 c.args.block.now c.in-Err.ensures.cases.0)
