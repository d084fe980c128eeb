use Rattle.std.proofs.Common.{◌≡◌, ◌++◌, length, map}
use Rattle.replay.specs.Replay.{device_of}
use Rattle.replay.proofs.Printing.{given_of}
use Rattle.replay.proofs.given.sessions_of.Given as goal

abbrev pub invariant-loop-one : goal.invariant-loop-one
invariant-loop-one l = record {
  made : map given_of l.sessions.items ≡ map device_of l.yielded;
  all : l.fn.recorded.items ≡ l.yielded ++ l.one-iterator.rest.items;
  len : l.one-iterator.rest.len ≡ length l.one-iterator.rest.items;
}
