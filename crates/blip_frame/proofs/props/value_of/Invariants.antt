use Rattle.std.proofs.Common.{◌≡◌, drop}
use Rattle.blip_frame.specs.Props.{pairs_of, value_at}
use Rattle.blip_frame.proofs.props.value_of.Given as goal

abbrev pub invariant-loop-prop : goal.invariant-loop-prop
invariant-loop-prop l = value_at (pairs_of (drop l.prop-index l.props)) l.key ≡ value_at (pairs_of l.props) l.key
