use Rattle.std.proofs.Common.{◌<◌, ◌+◌, ◌*◌, length, arith, rules}
use Rattle.sg_names.proofs.HexTexts.{read_more}
use Rattle.sg_names.proofs.hex.read_while.Goals as goal

pub loop-i-preserved : goal.loop-i-preserved
loop-i-preserved c =
    let inside : 2 * c.loop-i.i + 1 < length c.args.text.now = omega arith in
    read_more c.args.text.now c.loop-i.i c.args.out.now c.loop-i.out c.push.new.self c.in-Some.byte
    c.loop-i.invariant inside (omega arith) c.in-Some.ensures.some.0 c.in-Some.ensures.some.1 (search rules)
