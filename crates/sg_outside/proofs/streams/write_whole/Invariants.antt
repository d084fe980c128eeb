use Rattle.std.proofs.Common.{◌≡◌, ◌≤◌, ◌<◌, ◌^◌, ◌-◌, length, take}
use Rattle.std.specs.Io.KnownBytes.{Appends as Grows}
use Rattle.sg_outside.proofs.streams.write_whole.Given as goal

abbrev pub invariant-loop : goal.invariant-loop
invariant-loop g l = record {
  counted : l.faults ≡ l.fn.faults;
  low : l.faults < 2 ^ 64 - 1;
  within : l.count ≤ length l.bytes;
  written : Grows (g.W.Write.contents l.fn.writer) (g.W.Write.contents l.writer) (take l.count l.bytes);
}
