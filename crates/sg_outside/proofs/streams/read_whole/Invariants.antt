use Rattle.std.proofs.Common.{◌≡◌, ◌≤◌, length}
use Rattle.sg_outside.specs.Files.{largest_file}
use Rattle.sg_outside.proofs.StreamLemmas.{IsReadSoFar}
use Rattle.sg_outside.proofs.streams.read_whole.Given as goal

abbrev pub invariant-loop : goal.invariant-loop
invariant-loop g l = record {
  counted : l.faults ≡ l.fn.faults;
  small : l.count ≤ largest_file;
  start : l.start ≡ length l.fn.into;
  read : IsReadSoFar (g.F.Read.remaining l.fn.file) (g.F.Read.remaining l.file) l.fn.into l.into l.count;
}
