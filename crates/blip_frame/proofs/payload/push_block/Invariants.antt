use Rattle.std.proofs.Common.{◌≡◌, ◌++◌, take}
use Rattle.blip_frame.specs.Props.{pairs_of}
use Rattle.blip_frame.specs.Payload.{block_of}
use Rattle.blip_frame.proofs.payload.push_block.Given as goal

abbrev pub invariant-loop-prop : goal.invariant-loop-prop
invariant-loop-prop l = l.out ≡ l.fn.out ++ block_of (pairs_of (take l.prop-index l.props))
