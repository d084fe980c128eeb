use Rattle.std.proofs.Common.{ap, arith, length}
use Rattle.sg_history.proofs.Counted.{counted}
use Rattle.sg_history.proofs.pieces.field_count.Goals as goal

pub returns : goal.returns
returns c = omega (arith, c.count.ensures, ap length c.memchr_iter.ensures.value, counted 9 c.args.line.now)
