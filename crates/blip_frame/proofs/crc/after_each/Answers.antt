use Rattle.std.proofs.Common.{refl}
use Rattle.std.specs.List.{flat_map}
use Rattle.blip_frame.specs.Checksum.{after_bits, byte_bits}
use Rattle.blip_frame.proofs.Register.{one_more, none_left}
use Rattle.blip_frame.proofs.crc.after_each.Goals as goal

pub loop-byte-preserved : goal.loop-byte-preserved
loop-byte-preserved c =
    rw c.after_byte-register.ensures (one_more c.loop-byte.register c.args.bytes.now c.loop-byte.byte-index _ (after_bits c.args.start (flat_map byte_bits c.args.bytes.now)) c.loop-byte-test.true refl c.loop-byte.invariant)

pub returns : goal.returns
returns c = none_left c.loop-byte.register c.args.bytes.now c.loop-byte.byte-index (after_bits c.args.start (flat_map byte_bits c.args.bytes.now)) c.loop-byte-test.false c.loop-byte.invariant
