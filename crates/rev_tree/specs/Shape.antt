-- what holds of every tree
use Rattle.std.specs.Prelude.{Bool, true, ◌&&◌, not, List, filter, Option, Some, None}
use Rattle.std.specs.List.{list_all}
use Rattle.std.specs.Ordering.{is_lt}
use Rattle.sg_names.specs.declared.rev_id.RevId.{RevId}
use Rattle.sg_names.specs.RevId.{rev_cmp}
use Rattle.rev_tree.specs.declared.tree.Node.{Node}
use Rattle.rev_tree.specs.Rising.{nodes_rise}
use Rattle.rev_tree.specs.Tree.{knows, is_this, is_parent}

-- whether a revision has no parent, or one that is less and in the tree
abbrev pub stands_on : List Node → RevId → Option RevId → Bool
stands_on tree rev None = true
stands_on tree rev (Some parent) = knows tree parent && is_lt (rev_cmp parent rev)

-- the revisions rise, and each one's parent stands before it
abbrev pub is_tree : List Node → Bool
is_tree tree = nodes_rise tree && list_all (λ n. stands_on tree n.rev n.parent) tree

-- the nodes of the leaves: those that are no parent
abbrev pub tips : List Node → List Node
tips tree = filter (λ n. not (is_parent tree n.rev)) tree

-- nodes without that of a revision, if there is one
abbrev pub without_this : Option RevId → List Node → List Node
without_this gone nodes = filter (λ n. not (is_this gone n.rev)) nodes
