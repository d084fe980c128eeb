-- the parent of a revision is the one that it stands next to
use Rattle.std.proofs.Common.{◌≡◌, true, false, ◌&&◌, List, [], ◌∷◌, sym, ap, ◌∙◌, Option, Some, None, inl, inr}
use Rattle.std.specs.Prelude.{◌↔◌}
use Rattle.std.proofs.lemmas.Bool.{and_parts, and_from, or_left, or_right, or_cases, cases_Bool}
use Rattle.sg_names.specs.declared.rev_id.RevId.{RevId}
use Rattle.sg_names.specs.RevId.{rev_cmp, same_rev}
use Rattle.rev_tree.specs.declared.tree.Node.{Node}
use Rattle.rev_tree.specs.Tree.{knows, is_this, has_pair, parent_of}
use Rattle.rev_tree.specs.Extension.{Recorded}
use Rattle.rev_tree.specs.Writes.{has_pair_in, tree_of, AreAccepted}
use Rattle.std.specs.Ordering.{is_lt}
use Rattle.rev_tree.specs.Rising.{is_below_all, nodes_rise}
use Rattle.rev_tree.proofs.Sames.{same_is_equal, same_itself}
use Rattle.rev_tree.proofs.RevOrder.{less_differs}
use Rattle.rev_tree.proofs.OfWrites.{of_writes_rises, same_pairs}

this_is : (parent : Option RevId) (rev : RevId) → is_this parent rev ≡ true → parent ≡ Some rev
this_is None rev h = cc
this_is (Some p) rev h = ap (λ (r : RevId). Some r) (same_is_equal p rev h)

is_of : (parent : Option RevId) (rev : RevId) → parent ≡ Some rev → is_this parent rev ≡ true
is_of parent rev h = rw h (same_itself rev)

pair_known : (tree : List Node) (rev parent : RevId) → has_pair tree rev parent ≡ true → knows tree rev ≡ true
pair_known [] rev parent h = h
pair_known (n ∷ older) rev parent h =
    elim (or_cases (same_rev n.rev rev && is_this n.parent parent) (has_pair older rev parent) h) [
      | inl a ↦ or_left _ _ (and_parts (same_rev n.rev rev) (is_this n.parent parent) a).0
      | inr o ↦ or_right (same_rev n.rev rev) _ (pair_known older rev parent o)
    ]

pair_of : (tree : List Node) (rev parent : RevId) → parent_of tree rev ≡ Some parent → has_pair tree rev parent ≡ true
pair_of [] rev parent h = cc
pair_of (n ∷ older) rev parent h =
    elim (cases_Bool (same_rev n.rev rev)) [
      | inl s ↦ let is : n.parent ≡ Some parent = rw s at h in or_left _ _ (and_from _ _ s (is_of n.parent parent is))
      | inr s ↦ let is : parent_of older rev ≡ Some parent = rw s at h in or_right (same_rev n.rev rev && is_this n.parent parent) _ (pair_of older rev parent is)
    ]

below_differs : (a rev : RevId) (xs : List Node) → is_below_all a xs ≡ true → knows xs rev ≡ true → same_rev a rev ≡ false
below_differs a rev [] h known = cc
below_differs a rev (x ∷ xs) h known =
    let parts = and_parts (is_lt (rev_cmp a x.rev)) (is_below_all a xs) h in
    elim (or_cases (same_rev x.rev rev) (knows xs rev) known) [
      | inl s ↦ let one = same_is_equal x.rev rev s in let less : is_lt (rev_cmp a rev) ≡ true = rw one at parts.0 in less_differs a rev less
      | inr k ↦ below_differs a rev xs parts.1 k
    ]

of_pair : (tree : List Node) (rev parent : RevId) → nodes_rise tree ≡ true → has_pair tree rev parent ≡ true → parent_of tree rev ≡ Some parent
of_pair [] rev parent rising h = cc
of_pair (n ∷ older) rev parent rising h =
    elim (or_cases (same_rev n.rev rev && is_this n.parent parent) (has_pair older rev parent) h) [
      | inl a ↦
          let parts = and_parts (same_rev n.rev rev) (is_this n.parent parent) a in
          rw parts.0 (this_is n.parent parent parts.1)
      | inr o ↦
          let parts = and_parts (is_below_all n.rev older) (nodes_rise older) rising in
          let differs : same_rev n.rev rev ≡ false = below_differs n.rev rev older parts.0 (pair_known older rev parent o) in
          rw differs (of_pair older rev parent parts.1 o)
    ]

-- in the tree of accepted writes
pub parent_in : (writes : List Recorded) (rev parent : RevId) → AreAccepted writes → (parent_of (tree_of writes) rev ≡ Some parent) ↔ (has_pair_in writes rev parent ≡ true)
parent_in writes rev parent h =
    (λ is. sym (same_pairs writes rev parent h) ∙ pair_of (tree_of writes) rev parent is, λ pair. of_pair (tree_of writes) rev parent (of_writes_rises writes h) (same_pairs writes rev parent h ∙ pair))
