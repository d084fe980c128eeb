use Rattle.std.proofs.Common.{◌∙◌, sym}
use Rattle.blip_frame.proofs.Blocks.{length-texts_of}
use Rattle.blip_frame.proofs.payload.count_texts.Goals as goal

pub returns : goal.returns
returns c = c.count_nuls.ensures ∙ sym (length-texts_of c.args.block.now)
