use Rattle.std.proofs.Common.{◌≡◌, List, ◌++◌, take}
use Rattle.serde_json.specs.View.{items_view, members_view}
use Rattle.json_doc.specs.Reading.{trees_of, fields_of}
use Rattle.json_doc.specs.View.{nodes_trees, members_fields}
use Rattle.json_doc.proofs.ValueTrees.{Entry}
use Rattle.json_doc.proofs.convert.+convert.Given as goal

abbrev pub invariant-nodes_of-loop-item : goal.invariant-nodes_of-loop-item
invariant-nodes_of-loop-item l = nodes_trees l.nodes ≡ trees_of (items_view (take l.item-index l.item-items))

abbrev pub invariant-members_of-loop-key : goal.invariant-members_of-loop-key
invariant-members_of-loop-key l =
    (done : List Entry) × (l.members.entries ≡ done ++ l.key-iterator) × (members_fields l.made ≡ fields_of (members_view done))
