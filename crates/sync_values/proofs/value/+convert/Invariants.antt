use Rattle.std.proofs.Common.{◌≡◌, ◌++◌, ◌≤◌, length}
use Rattle.json_doc.specs.View.{node_tree, row_trees, members_fields, entry_fields}
use Rattle.sync_values.specs.Values.{values_of, members_of}
use Rattle.sync_values.proofs.Sizes.{size, sizes, field_sizes}
use Rattle.sync_values.proofs.value.+convert.Given as goal

abbrev pub decreases-value_of : goal.decreases-value_of
decreases-value_of l = size (node_tree l.node.now)

abbrev pub decreases-values_of : goal.decreases-values_of
decreases-values_of l = sizes (row_trees l.nodes.now)

abbrev pub decreases-members_of : goal.decreases-members_of
decreases-members_of l = field_sizes (members_fields l.members.now)

abbrev pub invariant-values_of-loop-left : goal.invariant-values_of-loop-left
invariant-values_of-loop-left l =
    (values_of (row_trees l.fn.nodes) ≡ l.made.items ++ values_of (row_trees l.left)) × (sizes (row_trees l.left) ≤ sizes (row_trees l.fn.nodes))

abbrev pub decreases-values_of-loop-left : goal.decreases-values_of-loop-left
decreases-values_of-loop-left l = length l.left

abbrev pub invariant-members_of-loop-name : goal.invariant-members_of-loop-name
invariant-members_of-loop-name l =
    (members_of (members_fields l.fn.members) ≡ l.made ++ members_of (entry_fields l.name-iterator))
    × (field_sizes (entry_fields l.name-iterator) ≤ field_sizes (members_fields l.fn.members))
