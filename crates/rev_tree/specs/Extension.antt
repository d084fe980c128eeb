-- What a further revision does to a tree.
use Rattle.std.specs.Prelude.{ℕ, ◌+◌, Bool, true, false, ◌&&◌, ◌||◌, not, nat_lt, List, [], ◌∷◌, length, Option, Some, None, if◌then◌else◌}
use Rattle.sg_names.specs.declared.rev_id.RevId.{RevId}
use Rattle.sg_names.specs.RevId.{same_rev}
use Rattle.rev_tree.specs.declared.leaf.Leaf.{Leaf}
use Rattle.rev_tree.specs.declared.tree.Node.{Node}
use Rattle.rev_tree.specs.Rising.{insert_node}
use Rattle.rev_tree.specs.Tree.{knows, winner_of}

-- a write of a document as it is recorded: its revision, the ancestors kept of its history from the nearest, and whether it deletes
pub record Recorded : Type 0 where
  pub rev : RevId
  pub ancestors : List RevId
  pub deleted : Bool

-- whether the generations fall strictly
abbrev pub falls : List RevId → Bool
falls [] = true
falls (a ∷ []) = true
falls (a ∷ b ∷ more) = nat_lt b.generation a.generation && falls (b ∷ more)

-- a history that does not fall from its revision on, or is longer than 1,000 ancestors
abbrev pub is_bad_history : RevId → List RevId → Bool
is_bad_history rev ancestors = not (falls (rev ∷ ancestors)) || nat_lt 1000 (length ancestors)

-- the first ancestor that the tree knows
abbrev pub first_known : List Node → List RevId → Option RevId
first_known tree [] = None
first_known tree (a ∷ more) = if knows tree a then Some a else first_known tree more

-- how many ancestors are kept: those up to the first known one and that one, or all where none is known
abbrev pub kept_ancestors : List Node → List RevId → ℕ
kept_ancestors tree [] = 0
kept_ancestors tree (a ∷ more) = if knows tree a then 1 else kept_ancestors tree more + 1

-- the nearest ancestor, if there is one
abbrev pub first_of : List RevId → Option RevId
first_of [] = None
first_of (a ∷ more) = Some a

-- the ancestors before the first known one, without bodies, each below the next one
abbrev pub added : List Node → List RevId → List Node
added tree [] = []
added tree (a ∷ more) =
    if knows tree a then [] else record { rev = a; parent = first_of more; deleted = false } ∷ added tree more

-- the tree with nodes put into it, each before those of greater revisions
abbrev pub with_nodes : List Node → List Node → List Node
with_nodes [] tree = tree
with_nodes (n ∷ ns) tree = insert_node n (with_nodes ns tree)

-- a write's revision on its first ancestor
abbrev pub node_on : Recorded → Node
node_on w = record { rev = w.rev; parent = first_of w.ancestors; deleted = w.deleted }

-- the tree with a write's revision on its first ancestor, and with the ancestors that it did not know
abbrev pub with_write : List Node → Recorded → List Node
with_write tree w = with_nodes (node_on w ∷ added tree w.ancestors) tree

-- without conflicts a revision goes on the winner, or beside a deleted winner, or into an empty tree: by the winner and the first known ancestor
abbrev pub goes_on : Option Leaf → Option RevId → Bool
goes_on None known = true
goes_on (Some winner) (Some known) = same_rev known winner.rev
goes_on (Some winner) None = winner.deleted

-- the first of these that holds: the revision is known; its history is bad; it makes a conflict where none is allowed; it extends the tree
pub data Verdict : Type 0 where
  is_known : Verdict
  has_bad_history : Verdict
  makes_conflict : Verdict
  extends_tree : Verdict

-- the outcome of a revision with these ancestors in a tree, under strictness or not: the first of these that holds
abbrev pub verdict_of : List Node → RevId → List RevId → Bool → Verdict
verdict_of tree rev ancestors strict =
    if knows tree rev then is_known
    else if is_bad_history rev ancestors then has_bad_history
    else if strict && not (goes_on (winner_of tree) (first_known tree ancestors)) then makes_conflict
    else extends_tree
