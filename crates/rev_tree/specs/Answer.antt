-- what an answer to an extension says
use Rattle.std.specs.Prelude.{ℕ, List}
use Rattle.sg_names.specs.declared.rev_id.RevId.{RevId}
use Rattle.rev_tree.specs.declared.tree.Node.{Node}
use Rattle.rev_tree.specs.declared.extend.Extended.{Extended}
use Rattle.rev_tree.specs.declared.extend.Extended.TheVariants.{NewTree, Known, BadHistory400, Conflict409, Memory}

-- the fact holds of a new tree and of how many ancestors are kept
abbrev pub IfNewTree : Extended → (List Node → ℕ → Type 0) → Type 0
IfNewTree (NewTree tree kept) says = says tree kept
IfNewTree Known says = Unit {0}
IfNewTree BadHistory400 says = Unit {0}
IfNewTree (Conflict409 leaf) says = Unit {0}
IfNewTree Memory says = Unit {0}

-- the fact holds of the leaf that a conflict is with
abbrev pub IfConflict : Extended → (RevId → Type 0) → Type 0
IfConflict (NewTree tree kept) says = Unit {0}
IfConflict Known says = Unit {0}
IfConflict BadHistory400 says = Unit {0}
IfConflict (Conflict409 leaf) says = says leaf
IfConflict Memory says = Unit {0}
