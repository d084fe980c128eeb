use Rattle.std.proofs.Common.{ap, ◌∙◌}
use Rattle.json_doc.specs.Tree.{tree_count}
use Rattle.json_doc.proofs.NodeTrees.{tree_count-row_trees}
use Rattle.json_doc.proofs.node.Nodes.len.Goals as goal

pub returns : goal.returns
returns c = tree_count-row_trees c.as_slice.result.now ∙ ap tree_count c.as_slice.ensures
