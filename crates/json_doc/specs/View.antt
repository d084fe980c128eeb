-- The trees that nodes stand for.
use Rattle.std.specs.Prelude.{List, [], ◌∷◌, map, String, string_bytes}
use Rattle.std.specs.declared.alloc.Global.{Global}
use Rattle.json_doc.specs.Tree.{Tree, null, boolean, integer, opaque, text, list, object, Trees, no_trees, tree, Fields, no_fields, field}
use Rattle.json_doc.specs.declared.node.Node.{Node, fold-Node}
use Rattle.json_doc.specs.declared.node.Nodes.{Nodes, fold-Nodes}
use Rattle.json_doc.specs.declared.node.Members.{Members, fold-Members}
use Rattle.json_doc.specs.declared.node.Node.TheOpen.{Node-F, Nodes-F, Members-F}

-- these trees in a row
abbrev pub in_a_row : List Tree → Trees
in_a_row [] = no_trees
in_a_row (t ∷ ts) = tree t (in_a_row ts)

-- these members in a row
abbrev pub under_names : List (String Global × Tree) → Fields
under_names [] = no_fields
under_names (m ∷ ms) = field (string_bytes m.0) m.1 (under_names ms)

-- one level of a node, with what it holds already seen as trees
abbrev pub node_step : Node-F Tree Fields Trees → Tree
node_step Node-F.Null = null
node_step (Node-F.Bool b) = boolean b
node_step (Node-F.Int z) = integer z
node_step Node-F.Opaque = opaque
node_step (Node-F.Text s) = text s
node_step (Node-F.List ts) = list ts
node_step (Node-F.Object fs) = object fs

-- one level of an object's members
abbrev pub members_step : Members-F Tree Fields Trees → Fields
members_step ms = under_names ms.map.entries

-- one level of a list of nodes
abbrev pub nodes_step : Nodes-F Tree Fields Trees → Trees
nodes_step ns = in_a_row ns.items.items

-- the tree of a node
abbrev pub node_tree : Node → Tree
node_tree = fold-Node Tree Fields Trees node_step members_step nodes_step

-- the trees of a list of nodes
abbrev pub nodes_trees : Nodes → Trees
nodes_trees = fold-Nodes Tree Fields Trees node_step members_step nodes_step

-- the members of an object
abbrev pub members_fields : Members → Fields
members_fields = fold-Members Tree Fields Trees node_step members_step nodes_step

-- the trees of nodes in a row
abbrev pub row_trees : List Node → Trees
row_trees ns = in_a_row (map node_tree ns)

-- the members that a map's entries are
abbrev pub entry_fields : List (String Global × Node) → Fields
entry_fields es = under_names (map (λ e. (e.0, node_tree e.1)) es)
