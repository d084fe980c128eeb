-- a tree without a winner is empty
use Rattle.std.proofs.Common.{◌≡◌, true, not, Bool, List, [], ◌∷◌, map, filter, refl, Option, Some, None, inl, inr}
use Rattle.std.specs.List.{list_all}
use Rattle.std.specs.Ordering.{is_lt}
use Rattle.std.proofs.lemmas.Bool.{and_parts, and_from, or_cases, cases_Bool, not_from_false, not-true, both_ways}
use Rattle.sg_names.specs.declared.rev_id.RevId.{RevId}
use Rattle.sg_names.specs.RevId.{rev_cmp}
use Rattle.rev_tree.specs.declared.tree.Node.{Node}
use Rattle.rev_tree.specs.Order.{first_leaf}
use Rattle.rev_tree.specs.Rising.{is_below_all, nodes_rise}
use Rattle.rev_tree.specs.Tree.{knows, is_this, is_parent, leaf_at, winner_of}
use Rattle.rev_tree.specs.Shape.{stands_on, is_tree, tips}
use Rattle.rev_tree.proofs.Sames.{same_is_equal}
use Rattle.rev_tree.proofs.RevOrder.{not_below_itself, not_both_less}

-- a node of nodes that rise that is less than none of them
record Greatest (nodes : List Node) : Type 0 where
  node : Node
  above : list_all (λ m. not (is_lt (rev_cmp node.rev m.rev))) nodes ≡ true
  among : (p : Node → Bool) → list_all p nodes ≡ true → p node ≡ true

greatest : (n : Node) (more : List Node) → nodes_rise (n ∷ more) ≡ true → Greatest (n ∷ more)
greatest n [] h = record { node = n; above = and_from _ _ (not_from_false _ (not_below_itself n.rev)) refl; among = λ p all. (and_parts (p n) true all).0 }
greatest n (m ∷ more) h =
    let parts = and_parts (is_below_all n.rev (m ∷ more)) (nodes_rise (m ∷ more)) h in
    let rest = greatest m more parts.1 in
    let less : is_lt (rev_cmp n.rev rest.node.rev) ≡ true = rest.among (λ (k : Node). is_lt (rev_cmp n.rev k.rev)) parts.0 in
    record { node = rest.node; above = and_from _ _ (not_from_false _ (not_both_less n.rev rest.node.rev less)) rest.above; among = λ p all. rest.among p (and_parts (p n) (list_all p (m ∷ more)) all).1 }

this_less : (all : List Node) (rev : RevId) (parent : Option RevId) (r : RevId) → stands_on all rev parent ≡ true → is_this parent r ≡ true → is_lt (rev_cmp r rev) ≡ true
this_less all rev None r h this = cc
this_less all rev (Some p) r h this = let e = same_is_equal p r this in let less : is_lt (rev_cmp p rev) ≡ true = (and_parts (knows all p) (is_lt (rev_cmp p rev)) h).1 in rw e at less

-- a parent is less than some node
child_greater : (all xs : List Node) (rev : RevId) → list_all (λ (n : Node). stands_on all n.rev n.parent) xs ≡ true → is_parent xs rev ≡ true → list_all (λ (m : Node). not (is_lt (rev_cmp rev m.rev))) xs ≡ true → ⊥
child_greater all [] rev stand this above = cc
child_greater all (n ∷ more) rev stand this above =
    let stands = and_parts (stands_on all n.rev n.parent) (list_all (λ (m : Node). stands_on all m.rev m.parent) more) stand in
    let aboves = and_parts (not (is_lt (rev_cmp rev n.rev))) (list_all (λ (m : Node). not (is_lt (rev_cmp rev m.rev))) more) above in
    elim (or_cases (is_this n.parent rev) (is_parent more rev) this) [
      | inl here ↦ both_ways (is_lt (rev_cmp rev n.rev)) (not-true (is_lt (rev_cmp rev n.rev)) aboves.0) (this_less all n.rev n.parent rev stands.0 here)
      | inr later ↦ child_greater all more rev stands.1 later aboves.1
    ]

all_parents : (parent : RevId → Bool) (xs : List Node) → filter (λ (n : Node). not (parent n.rev)) xs ≡ [] → list_all (λ (n : Node). parent n.rev) xs ≡ true
all_parents parent [] h = refl
all_parents parent (x ∷ xs) h =
    elim (cases_Bool (parent x.rev)) [
      | inl e ↦ let rest : filter (λ (n : Node). not (parent n.rev)) xs ≡ [] = rw e at h in and_from _ _ e (all_parents parent xs rest)
      | inr e ↦ let some : x ∷ filter (λ (n : Node). not (parent n.rev)) xs ≡ [] = rw e at h in cc
    ]

no_first : (ts : List Node) → first_leaf (map (λ (n : Node). leaf_at n) ts) ≡ None → ts ≡ []
no_first [] h = refl
no_first (t ∷ ts) h = cc

pub no_winner : (tree : List Node) → is_tree tree ≡ true → winner_of tree ≡ None → tree ≡ []
no_winner [] is h = refl
no_winner (n ∷ more) is h =
    let tree : List Node = n ∷ more in
    let parts = and_parts (nodes_rise tree) (list_all (λ (m : Node). stands_on tree m.rev m.parent) tree) is in
    let none : tips tree ≡ [] = no_first (tips tree) h in
    let top = greatest n more parts.0 in
    absurd (child_greater tree tree top.node.rev parts.1 (top.among (λ (m : Node). is_parent tree m.rev) (all_parents (λ r. is_parent tree r) tree none)) top.above)
