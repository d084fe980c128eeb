use Rattle.blip_frame.proofs.Blocks.{len_found}
use Rattle.blip_frame.proofs.payload.text_len.Goals as goal

pub returns : goal.returns
returns c = len_found c.args.block.now c.memchr.result c.unwrap_or.result c.memchr.ensures c.unwrap_or.ensures
