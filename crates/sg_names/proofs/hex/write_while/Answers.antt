use Rattle.sg_names.proofs.HexTexts.{hex_written_more}
use Rattle.sg_names.proofs.hex.write_while.Goals as goal

pub loop-byte-preserved : goal.loop-byte-preserved
loop-byte-preserved c =
    hex_written_more c.args.out.now c.loop-byte.out c.push.new.self c.push-in-loop-byte.new.self c.args.bytes.now
    c.loop-byte.byte-index c.hex_digit.result c.hex_digit-in-loop-byte.result c.loop-byte-test.true
    c.loop-byte.invariant c.hex_digit.ensures c.hex_digit-in-loop-byte.ensures c.in_ok-push.ensures.ok c.in_ok-push-2.ensures.ok
