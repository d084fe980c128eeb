use Rattle.std.proofs.Common.{arith}
use Rattle.blip_frame.proofs.Blocks.{closed_last}
use Rattle.blip_frame.proofs.payload.is_closed.Goals as goal

pub returns-in-len1-up : goal.returns-in-len1-up
returns-in-len1-up c = closed_last c.args.block.now (omega arith)
