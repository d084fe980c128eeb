-- how the first known ancestor is found, and what is added before it
use Rattle.std.specs.Prelude.{ℕ, zero, suc, ◌+◌, false, List, [], ◌∷◌, if◌then◌else◌}
use Rattle.sg_names.specs.declared.rev_id.RevId.{RevId}
use Rattle.rev_tree.specs.declared.tree.Node.{Node}
use Rattle.rev_tree.specs.Tree.{knows}
use Rattle.rev_tree.specs.Extension.{first_of}

-- the place of the first known ancestor, or their number where none is known
abbrev pub known_place : List Node → List RevId → ℕ
known_place tree [] = 0
known_place tree (a ∷ more) = if knows tree a then 0 else known_place tree more + 1

-- the first so many ancestors, without bodies, each below the next one
abbrev pub links : List RevId → ℕ → List Node
links [] count = []
links (a ∷ more) zero = []
links (a ∷ more) (suc count) = record { rev = a; parent = first_of more; deleted = false } ∷ links more count
