use Rattle.std.proofs.Common.{◌≡◌, ◌+◌, length}
use Rattle.sync_meaning.specs.Slots.{slot_of}
use Rattle.sync_meaning.proofs.variables.place_among.Given as goal

abbrev pub invariant-loop-left : goal.invariant-loop-left
invariant-loop-left l = (l.at + slot_of l.fn.slot.name l.fn.slot.number l.left ≡ slot_of l.fn.slot.name l.fn.slot.number l.fn.variables) × (l.at + length l.left ≡ length l.fn.variables)

abbrev pub decreases-loop-left : goal.decreases-loop-left
decreases-loop-left l = length l.left
