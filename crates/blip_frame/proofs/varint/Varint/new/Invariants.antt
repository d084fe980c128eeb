use Rattle.std.proofs.Common.{◌≡◌, ℕ, ◌+◌, ◌*◌, ◌^◌, ◌<◌, ◌++◌, length, take}
use Rattle.blip_frame.specs.Varint.{varint, varint_within}
use Rattle.blip_frame.proofs.varint.Varint.new.Given as goal

-- what is there with the varint of the rest is the whole
abbrev pub invariant-loop-rest : goal.invariant-loop-rest
invariant-loop-rest l = record {
  room : length l.bytes ≡ 10;
  so_far : (k : ℕ) × (l.len + k ≡ 9) × (l.rest < 2 ^ (7 * (k + 1))) × (take l.len l.bytes ++ varint_within k l.rest ≡ varint l.n);
}

abbrev pub decreases-loop-rest : goal.decreases-loop-rest
decreases-loop-rest l = l.rest
