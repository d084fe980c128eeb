-- the order of leaves
use Rattle.std.specs.Prelude.{◌≡◌, ℕ, nat_lt, filter, Bool, true, false, ◌&&◌, not, List, [], ◌∷◌, Option, Some, None, if◌then◌else◌}
use Rattle.std.specs.List.{All, Contains}
use Rattle.std.specs.Ordering.{bool_cmp, ordering_then, is_lt}
use Rattle.std.specs.declared.cmp.Ordering.{Ordering}
use Rattle.sg_names.specs.RevId.{rev_cmp}
use Rattle.rev_tree.specs.declared.leaf.Leaf.{Leaf}

-- one that is not deleted before one that is, then the greater revision first
abbrev pub leaf_cmp : Leaf → Leaf → Ordering
leaf_cmp a b = ordering_then (bool_cmp a.deleted b.deleted) (rev_cmp b.rev a.rev)

-- whether the first of two leaves is to win over the second
abbrev pub comes_before : Leaf → Leaf → Bool
comes_before a b = is_lt (leaf_cmp a b)

-- the one of two leaves that wins, if there is a second
abbrev pub sooner : Leaf → Option Leaf → Leaf
sooner l None = l
sooner l (Some other) = if comes_before other l then other else l

-- the leaf that wins over all others
abbrev pub first_leaf : List Leaf → Option Leaf
first_leaf [] = None
first_leaf (l ∷ ls) = Some (sooner l (first_leaf ls))

-- a leaf put before the first one of a lesser revision
abbrev pub insert_leaf : Leaf → List Leaf → List Leaf
insert_leaf l [] = l ∷ []
insert_leaf l (m ∷ ms) = if is_lt (rev_cmp l.rev m.rev) then m ∷ insert_leaf l ms else l ∷ m ∷ ms

-- leaves by falling generation, then by falling digest
abbrev pub in_order : List Leaf → List Leaf
in_order [] = []
in_order (l ∷ ls) = insert_leaf l (in_order ls)

-- the leaves of a lesser generation
abbrev pub leaves_below : ℕ → List Leaf → List Leaf
leaves_below generation leaves = filter (λ l. nat_lt l.rev.generation generation) leaves

-- whether no leaf is of a lesser revision than the next one
abbrev pub falls_by_rev : List Leaf → Bool
falls_by_rev [] = true
falls_by_rev (l ∷ []) = true
falls_by_rev (l ∷ m ∷ more) = not (is_lt (rev_cmp l.rev m.rev)) && falls_by_rev (m ∷ more)

-- a leaf among others before which none of them comes
pub record IsFirst (leaves : List Leaf) (first : Leaf) : Type 0 where
  pub among : Contains leaves first
  pub none_before : All (λ l. comes_before l first ≡ false) leaves
