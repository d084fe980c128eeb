use Rattle.std.proofs.Common.{◌≡◌, ◌++◌, take}
use Rattle.sg_names.specs.Hex.{hex_text}
use Rattle.sg_names.proofs.hex.write_while.Given as goal

abbrev pub invariant-loop-byte : goal.invariant-loop-byte
invariant-loop-byte l = l.out ≡ l.initial.out ++ hex_text (take l.byte-index l.bytes)
