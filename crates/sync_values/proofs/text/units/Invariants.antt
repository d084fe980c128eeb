use Rattle.std.proofs.Common.{◌≡◌, ◌+◌, ◌≤◌, take}
use Rattle.sync_values.specs.Units.{units}
use Rattle.sync_values.proofs.text.units.Given as goal

abbrev pub invariant-loop-byte : goal.invariant-loop-byte
invariant-loop-byte l = (l.count ≡ units (take l.byte-index l.text)) × (l.count ≤ l.byte-index + l.byte-index)
