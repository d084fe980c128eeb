-- Nodes that stand alone or in rows.
use Rattle.std.specs.Prelude.{List}
use Rattle.rev_tree.specs.declared.tree.Node.{Node}
use Rattle.rev_tree.specs.declared.rising.Layers.{Layers}
use Rattle.rev_tree.specs.declared.rising.Layers.TheVariants.{Few, Many}

-- all nodes
abbrev pub nodes_in : Layers → List Node
nodes_in (Few nodes) = nodes
nodes_in (Many nodes) = nodes
