use Rattle.std.proofs.Common.{List, All, subst}
use Rattle.blip_frame.specs.Props.{Pair, AreUtf8}
use Rattle.blip_frame.proofs.Blocks.{are_utf8}
use Rattle.blip_frame.proofs.props.Props.as_slice.Goals as goal

pub returns-clause-texts : goal.returns-clause-texts
returns-clause-texts c = subst (λ (props : List Pair). All AreUtf8 props) c.self.view_is (are_utf8 c.self.inside.items.items)
