use Rattle.std.proofs.Common.{◌≡◌, List, ◌++◌, take}
use Rattle.json_doc.specs.View.{nodes_trees, members_fields, row_trees, entry_fields}
use Rattle.json_doc.specs.declared.node.Members.{out-Members}
use Rattle.json_doc.proofs.NodeTrees.{Entry}
use Rattle.json_doc.proofs.node.+copy.Given as goal

abbrev pub invariant-Nodes::copy-loop-node : goal.invariant-Nodes::copy-loop-node
invariant-Nodes::copy-loop-node l = nodes_trees l.made ≡ row_trees (take l.node-index l.node-items)

abbrev pub invariant-Members::copy-loop-name : goal.invariant-Members::copy-loop-name
invariant-Members::copy-loop-name l =
    (done : List Entry) × ((out-Members l.self).map.entries ≡ done ++ l.name-iterator) × (members_fields l.made ≡ entry_fields done)
