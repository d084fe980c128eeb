-- a tree as it is kept: its nodes, those of its leaves, and the winner
use Rattle.std.proofs.Common.{◌≡◌, ℕ, true, false, not, Bool, List, [], ◌∷◌, map, filter, take, drop, length, get_or, refl, sym, ap, ◌∙◌, add-one, suc, ◌+◌, ◌<◌, drop-cons, None, inl, inr}
use Rattle.std.specs.Prelude.{nat_lt}
use Rattle.std.specs.List.{list_all}
use Rattle.std.proofs.lemmas.Bool.{and_parts, or_from, cases_Bool}
use Rattle.sg_names.specs.declared.rev_id.RevId.{RevId}
use Rattle.sg_names.specs.RevId.{same_rev}
use Rattle.rev_tree.specs.declared.leaf.Leaf.{Leaf}
use Rattle.rev_tree.specs.declared.tree.Node.{Node}
use Rattle.rev_tree.specs.Order.{in_order, leaves_below}
use Rattle.rev_tree.specs.Rising.{nodes_rise, falling, insert_node}
use Rattle.rev_tree.specs.Tree.{knows, leaves_of, is_parent}
use Rattle.rev_tree.specs.Extension.{falls, added, first_of, with_nodes}
use Rattle.rev_tree.specs.Shape.{stands_on, is_tree, tips, without_this}
use Rattle.rev_tree.proofs.Rises.{or_false}
use Rattle.rev_tree.proofs.Hanging.{rises_filter}
use Rattle.rev_tree.proofs.Firsts.{falling_in_order, falling_below}

pub tree_rises : (nodes : List Node) → is_tree nodes ≡ true → nodes_rise nodes ≡ true
tree_rises nodes is = (and_parts (nodes_rise nodes) (list_all (λ (n : Node). stands_on nodes n.rev n.parent) nodes) is).0

pub tips_rise : (nodes : List Node) → is_tree nodes ≡ true → nodes_rise (tips nodes) ≡ true
tips_rise nodes is = rises_filter (λ (n : Node). not (is_parent nodes n.rev)) nodes (tree_rises nodes is)

pub leaves_fall : (nodes : List Node) → is_tree nodes ≡ true → falling (tips nodes) ≡ in_order (leaves_of nodes)
leaves_fall nodes is = falling_in_order (tips nodes) (tips_rise nodes is)

-- the leaves of lesser generations
pub leaves_lower : (nodes : List Node) (generation most : ℕ) → is_tree nodes ≡ true → map (λ (l : Leaf). l.rev) (take most (falling (filter (λ (n : Node). nat_lt n.rev.generation generation) (tips nodes)))) ≡ map (λ (l : Leaf). l.rev) (take most (leaves_below generation (in_order (leaves_of nodes))))
leaves_lower nodes generation most is =
    ap (λ (ls : List Leaf). map (λ (l : Leaf). l.rev) (take most ls)) (sym (falling_below generation (tips nodes)) ∙ ap (leaves_below generation) (leaves_fall nodes is))

pub unknown_filter : (p : Node → Bool) (xs : List Node) (rev : RevId) → knows xs rev ≡ false → knows (filter p xs) rev ≡ false
unknown_filter p [] rev h = refl
unknown_filter p (x ∷ xs) rev h =
    let parts = or_false (same_rev x.rev rev) (knows xs rev) h in
    elim (cases_Bool (p x)) [ inl e ↦ rw e (or_from _ _ parts.0 (unknown_filter p xs rev parts.1)) | inr e ↦ rw e (unknown_filter p xs rev parts.1) ]

pub unknown_tip : (nodes : List Node) (rev : RevId) → knows nodes rev ≡ false → knows (tips nodes) rev ≡ false
unknown_tip nodes rev h = unknown_filter (λ (n : Node). not (is_parent nodes n.rev)) nodes rev h

-- without none all stay
pub all_stay : (xs : List Node) → without_this None xs ≡ xs
all_stay [] = refl
all_stay (x ∷ xs) = ap (λ (ns : List Node). x ∷ ns) (all_stay xs)

-- the nodes with an ancestor before the first known one
pub added_next : (tree : List Node) (revs : List RevId) (i : ℕ) (a : RevId) → i < length revs → a ≡ get_or revs i a → knows tree a ≡ false → with_nodes (added tree (drop i revs)) tree ≡ insert_node (record { rev = a; parent = first_of (drop (i + 1) revs); deleted = false }) (with_nodes (added tree (drop (i + 1) revs)) tree)
added_next tree revs i a within is unknown =
    let cut : drop i revs ≡ a ∷ drop (i + 1) revs = rw add-one (drop-cons revs i a within ∙ ap (λ (r : RevId). r ∷ drop (suc i) revs) (sym is)) in
    rw cut (rw unknown refl)

pub falls_from_place : (revs : List RevId) (i : ℕ) (a : RevId) → i < length revs → a ≡ get_or revs i a → falls (drop i revs) ≡ true → falls (a ∷ drop (i + 1) revs) ≡ true
falls_from_place revs i a within is h =
    let cut : drop i revs ≡ a ∷ drop (i + 1) revs = rw add-one (drop-cons revs i a within ∙ ap (λ (r : RevId). r ∷ drop (suc i) revs) (sym is)) in
    rw cut at h
