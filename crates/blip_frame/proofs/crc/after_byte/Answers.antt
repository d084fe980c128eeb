use Rattle.std.proofs.Common.{arith}
use Rattle.blip_frame.proofs.Register.{by_table}
use Rattle.blip_frame.proofs.crc.after_byte.Goals as goal

pub returns : goal.returns
returns c = rw (c.entry.ensures, c.from.ensures) (by_table c.args.register c.args.byte (omega arith))
