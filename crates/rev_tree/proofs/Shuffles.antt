-- the same leaves in another order
use Rattle.std.proofs.Common.{true, false, Bool, List, [], ◌∷◌, map, filter, inl, inr, if◌then◌else◌}
use Rattle.std.specs.List.Sorted.{IsPermutation}
use Rattle.std.specs.Ordering.{is_lt}
use Rattle.std.proofs.lemmas.Bool.{cases_Bool}
use Rattle.std.proofs.lemmas.List.Sorted.{IsPermutation-refl, IsPermutation-cons, IsPermutation-trans, IsPermutation-middle}
use Rattle.sg_names.specs.RevId.{rev_cmp}
use Rattle.rev_tree.specs.declared.leaf.Leaf.{Leaf}
use Rattle.rev_tree.specs.declared.tree.Node.{Node}
use Rattle.rev_tree.specs.Rising.{insert_node}
use Rattle.rev_tree.specs.Tree.{leaf_at}

-- exchanges of neighbours lead from one list to the other
pub data Shuffled : List Leaf → List Leaf → Type 0 where
  still : {xs : List Leaf} → Shuffled xs xs
  behind : {x : Leaf} {xs ys : List Leaf} → Shuffled xs ys → Shuffled (x ∷ xs) (x ∷ ys)
  exchanged : {x y : Leaf} {xs : List Leaf} → Shuffled (x ∷ y ∷ xs) (y ∷ x ∷ xs)
  twice : {xs ys zs : List Leaf} → Shuffled xs ys → Shuffled ys zs → Shuffled xs zs

pub shuffled_permutes : {xs ys : List Leaf} → Shuffled xs ys → IsPermutation xs ys
shuffled_permutes {xs = xs} still = IsPermutation-refl xs
shuffled_permutes (behind {x = x} {xs = xs} {ys = ys} s) = IsPermutation-cons x xs ys (shuffled_permutes s)
shuffled_permutes (exchanged {x = x} {y = y} {xs = xs}) = IsPermutation-middle (x ∷ []) y xs
shuffled_permutes (twice {xs = xs} {ys = ys} {zs = zs} s t) = IsPermutation-trans xs ys zs (shuffled_permutes s) (shuffled_permutes t)

filter_behind : (p : Leaf → Bool) (x : Leaf) (xs ys : List Leaf) → Shuffled (filter p xs) (filter p ys) → Shuffled (filter p (x ∷ xs)) (filter p (x ∷ ys))
filter_behind p x xs ys s = elim (cases_Bool (p x)) [ inl e ↦ rw e (behind s) | inr e ↦ rw e s ]

exchanged_by : (b d : Bool) (x y : Leaf) (zs : List Leaf) → Shuffled (if b then x ∷ (if d then y ∷ zs else zs) else (if d then y ∷ zs else zs)) (if d then y ∷ (if b then x ∷ zs else zs) else (if b then x ∷ zs else zs))
exchanged_by true true x y zs = exchanged
exchanged_by true false x y zs = still
exchanged_by false true x y zs = still
exchanged_by false false x y zs = still

filter_exchanged : (p : Leaf → Bool) (x y : Leaf) (xs : List Leaf) → Shuffled (filter p (x ∷ y ∷ xs)) (filter p (y ∷ x ∷ xs))
filter_exchanged p x y xs = exchanged_by (p x) (p y) x y (filter p xs)

pub filter_shuffled : (p : Leaf → Bool) {xs ys : List Leaf} → Shuffled xs ys → Shuffled (filter p xs) (filter p ys)
filter_shuffled p still = still
filter_shuffled p (behind {x = x} {xs = xs} {ys = ys} s) = filter_behind p x xs ys (filter_shuffled p s)
filter_shuffled p (exchanged {x = x} {y = y} {xs = xs}) = filter_exchanged p x y xs
filter_shuffled p (twice s t) = twice (filter_shuffled p s) (filter_shuffled p t)

-- the leaves of nodes, one of which is put
pub put_leaves : (n : Node) (xs : List Node) → Shuffled (leaf_at n ∷ map (λ (m : Node). leaf_at m) xs) (map (λ (m : Node). leaf_at m) (insert_node n xs))
put_leaves n [] = still
put_leaves n (x ∷ xs) =
    elim (cases_Bool (is_lt (rev_cmp x.rev n.rev))) [
      | inl e ↦ rw e (twice exchanged (behind (put_leaves n xs)))
      | inr e ↦ rw e still
    ]
