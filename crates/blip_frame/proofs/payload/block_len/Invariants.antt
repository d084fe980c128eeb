use Rattle.std.proofs.Common.{◌≡◌, ◌<◌, ◌^◌, length, take}
use Rattle.blip_frame.specs.Props.{pairs_of}
use Rattle.blip_frame.specs.Payload.{block_of}
use Rattle.blip_frame.proofs.payload.block_len.Given as goal

abbrev pub invariant-loop-prop : goal.invariant-loop-prop
invariant-loop-prop l = record { len : l.len ≡ length (block_of (pairs_of (take l.prop-index l.props))); below : l.len < 2 ^ 64 }
