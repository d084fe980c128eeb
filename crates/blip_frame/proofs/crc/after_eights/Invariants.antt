use Rattle.std.proofs.Common.{◌≡◌, length}
use Rattle.std.specs.List.{flat_map}
use Rattle.blip_frame.specs.Checksum.{after_bits, byte_bits}
use Rattle.blip_frame.proofs.crc.after_eights.Given as goal

-- what is left of the bytes takes the register to its end
abbrev pub invariant-loop-eight : goal.invariant-loop-eight
invariant-loop-eight l = after_bits l.register (flat_map byte_bits l.rest) ≡ after_bits l.start (flat_map byte_bits l.bytes)

abbrev pub decreases-loop-eight : goal.decreases-loop-eight
decreases-loop-eight l = length l.rest
