use Rattle.std.proofs.Common.{◌≡◌, drop}
use Rattle.std.specs.List.{flat_map}
use Rattle.blip_frame.specs.Checksum.{after_bits, byte_bits}
use Rattle.blip_frame.proofs.crc.after_each.Given as goal

-- what is left of the bytes takes the register to its end
abbrev pub invariant-loop-byte : goal.invariant-loop-byte
invariant-loop-byte l = after_bits l.register (flat_map byte_bits (drop l.byte-index l.bytes)) ≡ after_bits l.start (flat_map byte_bits l.bytes)
