-- A document's tree: its revisions as a set, which is listed by rising revision, each with its parent where it has one.
use Rattle.std.specs.Prelude.{ℕ, zero, suc, Bool, false, ◌&&◌, not, List, [], ◌∷◌, map, filter, Option, Some, None, if◌then◌else◌}
use Rattle.std.specs.List.{list_any}
use Rattle.sg_names.specs.declared.rev_id.RevId.{RevId}
use Rattle.sg_names.specs.RevId.{same_rev}
use Rattle.rev_tree.specs.declared.leaf.Leaf.{Leaf}
use Rattle.rev_tree.specs.declared.tree.Node.{Node}
use Rattle.rev_tree.specs.Order.{first_leaf}

-- whether the tree has this revision
abbrev pub knows : List Node → RevId → Bool
knows tree rev = list_any (λ n. same_rev n.rev rev) tree

-- whether there is a revision and it is this one
abbrev pub is_this : Option RevId → RevId → Bool
is_this None rev = false
is_this (Some other) rev = same_rev other rev

-- whether the second revision is the parent of the first
abbrev pub has_pair : List Node → RevId → RevId → Bool
has_pair tree rev parent = list_any (λ n. same_rev n.rev rev && is_this n.parent parent) tree

-- whether the revision is a parent
abbrev pub is_parent : List Node → RevId → Bool
is_parent tree rev = list_any (λ n. is_this n.parent rev) tree

-- a revision as a leaf
abbrev pub leaf_at : Node → Leaf
leaf_at n = record { rev = n.rev; deleted = n.deleted }

-- the leaves: the revisions that are no parent
abbrev pub leaves_of : List Node → List Leaf
leaves_of tree = map (λ n. leaf_at n) (filter (λ n. not (is_parent tree n.rev)) tree)

-- the leaf that comes first by: not deleted before deleted, then greater generation, then greater digest
abbrev pub winner_of : List Node → Option Leaf
winner_of tree = first_leaf (leaves_of tree)

-- the parent of a revision; none where it has none, or is not there
abbrev pub parent_of : List Node → RevId → Option RevId
parent_of [] rev = None
parent_of (n ∷ ns) rev = if same_rev n.rev rev then n.parent else parent_of ns rev

-- a revision, if there is one, and its ancestors, at most so many in all
abbrev pub line_from : List Node → Option RevId → ℕ → List RevId
line_from tree None most = []
line_from tree (Some rev) zero = []
line_from tree (Some rev) (suc most) = rev ∷ line_from tree (parent_of tree rev) most

-- the ancestors of a revision from its parent on, at most so many
abbrev pub ancestors_of : List Node → RevId → ℕ → List RevId
ancestors_of tree rev most = line_from tree (parent_of tree rev) most
