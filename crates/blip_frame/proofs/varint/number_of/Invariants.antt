use Rattle.std.proofs.Common.{◌≡◌, ◌-◌, ◌*◌, ◌^◌, ◌<◌, ◌≤◌, drop}
use Rattle.blip_frame.specs.Varint.{varint_at}
use Rattle.blip_frame.proofs.Varints.{scaled}
use Rattle.blip_frame.proofs.varint.number_of.Given as goal

-- what was read before, and what the bytes from here on stand for, are the whole
abbrev pub invariant-loop-i : goal.invariant-loop-i
invariant-loop-i l = record {
  within : l.i ≤ 9;
  scale : l.scale ≡ 2 ^ (7 * l.i);
  value : l.value < l.scale;
  so_far : scaled l.value l.scale (varint_at (10 - l.i) (drop l.i l.bytes)) ≡ varint_at 10 l.bytes;
}
