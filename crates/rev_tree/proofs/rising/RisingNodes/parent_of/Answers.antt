use Rattle.std.proofs.Common.{◌∙◌}
use Rattle.rev_tree.proofs.Rises.{parent_some, parent_none}
use Rattle.rev_tree.proofs.rising.RisingNodes.parent_of.Goals as goal

pub returns-in-Some : goal.returns-in-Some
returns-in-Some c = c.as_ref.ensures.value ∙ parent_some c.args.self.now c.args.rev.now c.in-Some.node.now c.in-Some.ensures

pub returns-in-None : goal.returns-in-None
returns-in-None c = parent_none c.args.self.now c.args.rev.now c.in-None.ensures
