-- The tree of a document's writes, given newest first.
use Rattle.std.specs.Prelude.{Bool, true, ◌&&◌, not, List, [], ◌∷◌, ◌++◌, map, filter, Option, IsTrue}
use Rattle.std.specs.List.{list_any}
use Rattle.sg_names.specs.declared.rev_id.RevId.{RevId}
use Rattle.sg_names.specs.RevId.{same_rev}
use Rattle.rev_tree.specs.declared.leaf.Leaf.{Leaf}
use Rattle.rev_tree.specs.declared.tree.Node.{Node}
use Rattle.rev_tree.specs.Order.{first_leaf}
use Rattle.rev_tree.specs.Tree.{knows}
use Rattle.rev_tree.specs.Extension.{Recorded, falls, with_write}

-- whether a revision is among these
abbrev pub rev_among : List RevId → RevId → Bool
rev_among revs rev = list_any (λ r. same_rev r rev) revs

-- a write's revision and its ancestors
abbrev pub path_of : Recorded → List RevId
path_of w = w.rev ∷ w.ancestors

-- all revisions that the writes list
abbrev pub revisions : List Recorded → List RevId
revisions [] = []
revisions (w ∷ older) = path_of w ++ revisions older

-- a revision and its parent
pub record RevPair : Type 0 where
  pub rev : RevId
  pub parent : RevId

-- the pairs of revisions that stand next to each other
abbrev pub neighbours : List RevId → List RevPair
neighbours [] = []
neighbours (a ∷ []) = []
neighbours (a ∷ b ∷ more) = record { rev = a; parent = b } ∷ neighbours (b ∷ more)

-- the pairs of revisions that stand next to each other in the writes' lists
abbrev pub pairs : List Recorded → List RevPair
pairs [] = []
pairs (w ∷ older) = neighbours (path_of w) ++ pairs older

-- whether the second revision is the parent of the first
abbrev pub has_pair_in : List Recorded → RevId → RevId → Bool
has_pair_in writes rev parent = list_any (λ p. same_rev p.rev rev && same_rev p.parent parent) (pairs writes)

-- whether the revision is a parent
abbrev pub is_parent_in : List Recorded → RevId → Bool
is_parent_in writes rev = list_any (λ p. same_rev p.parent rev) (pairs writes)

-- whether some write of this revision deletes; a revision that is listed as an ancestor alone is not deleted
abbrev pub is_deleted_in : List Recorded → RevId → Bool
is_deleted_in writes rev = list_any (λ w. same_rev w.rev rev && w.deleted) writes

-- the leaves: the revisions that are no parent
abbrev pub leaves_in : List Recorded → List Leaf
leaves_in writes =
    map (λ r. record { rev = r; deleted = is_deleted_in writes r }) (filter (λ r. not (is_parent_in writes r)) (revisions writes))

-- the leaf that comes first by: not deleted before deleted, then greater generation, then greater digest
abbrev pub winner_in : List Recorded → Option Leaf
winner_in writes = first_leaf (leaves_in writes)

-- the tree that the writes make, one after another
abbrev pub tree_of : List Recorded → List Node
tree_of [] = []
tree_of (w ∷ older) = with_write (tree_of older) w

-- no revision but the last one is in the tree
abbrev pub only_last_known : List Node → List RevId → Bool
only_last_known tree [] = true
only_last_known tree (a ∷ []) = true
only_last_known tree (a ∷ b ∷ more) = not (knows tree a) && only_last_known tree (b ∷ more)

-- a write as it is recorded of an accepted extension of the tree: the tree lacks its revision, its history falls, and it keeps no ancestor past the first known one
abbrev pub is_accepted : List Node → Recorded → Bool
is_accepted tree w = not (knows tree w.rev) && falls (path_of w) && only_last_known tree w.ancestors

-- each write was an accepted extension of the tree of the writes before it
abbrev pub AreAccepted : List Recorded → Type 0
AreAccepted [] = Unit {0}
AreAccepted (w ∷ older) = IsTrue (is_accepted (tree_of older) w) × AreAccepted older
