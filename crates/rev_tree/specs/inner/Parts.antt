-- Nodes in parts.
use Rattle.std.specs.Prelude.{◌≡◌, Bool, true, false, ◌&&◌, List, [], ◌∷◌, ◌++◌, IsTrue}
use Rattle.std.specs.Arc.{arc_value}
use Rattle.std.specs.declared.sync.Arc.{Arc}
use Rattle.rev_tree.specs.declared.tree.Node.{Node}
use Rattle.rev_tree.specs.Rising.{nodes_rise}

-- the nodes of all parts
abbrev pub joined : {X Z : Type 0} → (X → List Node) → List (Arc X Z) → List Node
joined nodes [] = []
joined nodes (part ∷ more) = nodes (arc_value part) ++ joined nodes more

-- whether each part is sound
abbrev pub are_sound : {X Z : Type 0} → (X → Bool) → List (Arc X Z) → Bool
are_sound sound [] = true
are_sound sound (part ∷ more) = sound (arc_value part) && are_sound sound more

-- whether there is a part, each is sound, and their nodes rise
abbrev pub is_row : {X Z : Type 0} → (X → List Node) → (X → Bool) → List (Arc X Z) → Bool
is_row nodes sound [] = false
is_row nodes sound (part ∷ more) = are_sound sound (part ∷ more) && nodes_rise (joined nodes (part ∷ more))

-- sound parts that hold these nodes
pub record AreParts {X Z : Type 0} (nodes : X → List Node) (sound : X → Bool) (parts : List (Arc X Z)) (all : List Node) : Type 0 where
  pub hold : joined nodes parts ≡ all
  pub are_all : IsTrue (are_sound sound parts)

-- the node is the first one
pub record IsHead (nodes : List Node) (n : Node) : Type 0 where
  pub more : List Node
  pub is : nodes ≡ n ∷ more
