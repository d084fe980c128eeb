-- Nodes by rising revision.
use Rattle.std.specs.Prelude.{Bool, true, false, ◌&&◌, not, List, [], ◌∷◌, ◌++◌, filter, Option, Some, None, if◌then◌else◌}
use Rattle.std.specs.List.{list_all}
use Rattle.std.specs.Ordering.{is_lt}
use Rattle.std.specs.declared.cmp.Ordering.{Ordering}
use Rattle.std.specs.declared.cmp.Ordering.TheVariants.{Less, Equal, Greater}
use Rattle.sg_names.specs.declared.rev_id.RevId.{RevId}
use Rattle.sg_names.specs.RevId.{rev_cmp, same_rev}
use Rattle.rev_tree.specs.declared.leaf.Leaf.{Leaf}
use Rattle.rev_tree.specs.declared.tree.Node.{Node}

-- whether a revision is less than those of all nodes
abbrev pub is_below_all : RevId → List Node → Bool
is_below_all rev nodes = list_all (λ n. is_lt (rev_cmp rev n.rev)) nodes

-- whether each revision is less than all after it
abbrev pub nodes_rise : List Node → Bool
nodes_rise [] = true
nodes_rise (n ∷ more) = is_below_all n.rev more && nodes_rise more

-- a node put before the first one that is not of a lesser revision
abbrev pub insert_node : Node → List Node → List Node
insert_node n [] = n ∷ []
insert_node n (m ∷ more) = if is_lt (rev_cmp m.rev n.rev) then m ∷ insert_node n more else n ∷ m ∷ more

-- the nodes without the one of a revision
abbrev pub without : RevId → List Node → List Node
without rev nodes = filter (λ n. not (same_rev rev n.rev)) nodes

-- less, or equal where that is enough
abbrev pub is_up_to : Bool → Ordering → Bool
is_up_to or_equal Less = true
is_up_to or_equal Equal = or_equal
is_up_to or_equal Greater = false

-- the revisions that are less than one, and that one where it is allowed
pub record Limit : Type 0 where
  pub rev : RevId
  pub or_equal : Bool

-- whether a revision is within a limit
abbrev pub is_within : Limit → RevId → Bool
is_within limit rev = is_up_to limit.or_equal (rev_cmp rev limit.rev)

-- the second where there is no first
abbrev pub option_or : {A : Type 0} → Option A → Option A → Option A
option_or None other = other
option_or (Some a) other = Some a

-- the last node that passes
abbrev pub last_node : (Node → Bool) → List Node → Option Node
last_node p [] = None
last_node p (n ∷ more) = option_or (last_node p more) (if p n then Some n else None)

-- the last node of which the revision passes
abbrev pub last_where : (RevId → Bool) → List Node → Option Node
last_where p nodes = last_node (λ n. p n.rev) nodes

-- the last node, or the last one that is not deleted
abbrev pub last_alive : Bool → List Node → Option Node
last_alive alive nodes = last_node (λ n. not (alive && n.deleted)) nodes

-- nodes as leaves, the last one first
abbrev pub falling : List Node → List Leaf
falling [] = []
falling (n ∷ more) = falling more ++ record { rev = n.rev; deleted = n.deleted } ∷ []

-- whether there is a first node and its revision passes
abbrev pub starts : (RevId → Bool) → List Node → Bool
starts p [] = false
starts p (n ∷ more) = p n.rev

-- the node of a revision, if there is one
abbrev pub node_of : List Node → RevId → Option Node
node_of [] rev = None
node_of (n ∷ more) rev = if same_rev n.rev rev then Some n else node_of more rev

-- a node where there is one and it is of this revision
abbrev pub if_of : RevId → Option Node → Option Node
if_of rev None = None
if_of rev (Some n) = if same_rev n.rev rev then Some n else None
