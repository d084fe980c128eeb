-- what is done in the part where a revision falls is done to the nodes of all parts
use Rattle.std.proofs.Common.{◌≡◌, ℕ, zero, suc, ◌+◌, ◌-◌, ◌<◌, true, false, Bool, List, [], ◌∷◌, ◌++◌, length, get_or, take, drop, refl, sym, ap, ◌∙◌, arith, append_assoc, Some, None}
use Rattle.std.specs.Ordering.{is_lt}
use Rattle.std.specs.Arc.{arc_value}
use Rattle.std.specs.declared.sync.Arc.{Arc}
use Rattle.std.proofs.lemmas.List.Folds.{list_any-append}
use Rattle.sg_names.specs.declared.rev_id.RevId.{RevId}
use Rattle.sg_names.specs.RevId.{rev_cmp, same_rev}
use Rattle.rev_tree.specs.declared.leaf.Leaf.{Leaf}
use Rattle.rev_tree.specs.declared.tree.Node.{Node}
use Rattle.rev_tree.specs.Tree.{knows}
use Rattle.rev_tree.specs.Rising.{nodes_rise, insert_node, without, last_node, last_where, falling, starts, is_within}
use Rattle.rev_tree.specs.inner.Parts.{joined}
use Rattle.rev_tree.proofs.RevOrder.{Closed, within_strictly}
use Rattle.rev_tree.proofs.Rises.{found_in, put_in_part, insert_past, take_from_part, or_false, last_past, last_front, falling_append}
use Rattle.rev_tree.proofs.Joins.{joined_at, joined_by}

starts_strictly : (rev : RevId) (xs : List Node) → starts (is_within (record { rev = rev; or_equal = false })) xs ≡ starts (λ r. is_lt (rev_cmp r rev)) xs
starts_strictly rev [] = refl
starts_strictly rev (x ∷ xs) = within_strictly rev x.rev

put_first : (n : Node) (xs after : List Node) → starts (λ r. is_lt (rev_cmp r n.rev)) (xs ++ after) ≡ false → insert_node n xs ++ after ≡ insert_node n (xs ++ after)
put_first n [] after h = sym (insert_past n [] after h)
put_first n (x ∷ xs) after h = rw h refl

module _ {X Z : Type 0} (nodes : X → List Node) (parts : List (Arc X Z)) (j : ℕ) (part : Arc X Z) (within : j < length parts) (is : part ≡ get_or parts j part) where
  -- what all parts lack, one does
  pub unknown_in : (rev : RevId) → knows (joined nodes parts) rev ≡ false → knows (nodes (arc_value part)) rev ≡ false
  unknown_in rev h =
      let before = joined nodes (take j parts) in
      let here = nodes (arc_value part) in
      let after = joined nodes (drop (j + 1) parts) in
      let all : knows (before ++ (here ++ after)) rev ≡ false = rw (joined_by nodes parts j part within is) at h in
      let one = or_false (knows before rev) (knows (here ++ after) rev) (sym (list_any-append (λ (n : Node). same_rev n.rev rev) before (here ++ after)) ∙ all) in
      (or_false (knows here rev) (knows after rev) (sym (list_any-append (λ (n : Node). same_rev n.rev rev) here after) ∙ one.1)).0

  pub found_part : (p : RevId → Bool) → Closed p → nodes_rise (joined nodes parts) ≡ true → starts p (joined nodes (drop j parts)) ≡ true → starts p (joined nodes (drop (j + 1) parts)) ≡ false → last_where p (nodes (arc_value part)) ≡ last_where p (joined nodes parts)
  found_part p closed rising first next =
      let by = joined_by nodes parts j part within is in
      let here = rw (joined_at nodes parts j part within is) at first in
      let all = rw by at rising in
      rw by (found_in p closed (joined nodes (take j parts)) (nodes (arc_value part)) (joined nodes (drop (j + 1) parts)) all here next)

  put_part_by : (n : Node) (place : ℕ) → j ≡ place - 1 → nodes_rise (joined nodes parts) ≡ true → ((i : ℕ) → i + 1 ≡ place → starts (λ r. is_lt (rev_cmp r n.rev)) (joined nodes (drop i parts)) ≡ true) → starts (λ r. is_lt (rev_cmp r n.rev)) (joined nodes (drop place parts)) ≡ false → joined nodes (take j parts) ++ (insert_node n (nodes (arc_value part)) ++ joined nodes (drop (j + 1) parts)) ≡ insert_node n (joined nodes (take j parts) ++ (nodes (arc_value part) ++ joined nodes (drop (j + 1) parts)))
  put_part_by n zero at rising below above =
      let zero_j : j ≡ 0 = omega arith in
      let here : starts (λ r. is_lt (rev_cmp r n.rev)) (nodes (arc_value part) ++ joined nodes (drop (j + 1) parts)) ≡ false = sym (ap (starts (λ r. is_lt (rev_cmp r n.rev))) (joined_at nodes parts j part within is)) ∙ rw zero_j above in
      rw zero_j (put_first n (nodes (arc_value part)) (joined nodes (drop 1 parts)) (rw zero_j at here))
  put_part_by n (suc place) at rising below above =
      let same_j : j ≡ place = omega arith in
      let next : j + 1 ≡ suc place = omega arith in
      let here = rw (joined_at nodes parts j part within is) at (below j next) in
      let past : starts (λ r. is_lt (rev_cmp r n.rev)) (joined nodes (drop (j + 1) parts)) ≡ false = rw next above in
      put_in_part n (joined nodes (take j parts)) (nodes (arc_value part)) (joined nodes (drop (j + 1) parts)) (rw (joined_by nodes parts j part within is) at rising) here past

  -- a node put into the part before the first one that is not of a lesser revision
  pub put_part : (n : Node) (place : ℕ) → j ≡ place - 1 → nodes_rise (joined nodes parts) ≡ true → ((i : ℕ) → i + 1 ≡ place → starts (is_within (record { rev = n.rev; or_equal = false })) (joined nodes (drop i parts)) ≡ true) → starts (is_within (record { rev = n.rev; or_equal = false })) (joined nodes (drop place parts)) ≡ false → joined nodes (take j parts) ++ (insert_node n (nodes (arc_value part)) ++ joined nodes (drop (j + 1) parts)) ≡ insert_node n (joined nodes parts)
  put_part n place at rising below above =
      put_part_by n place at rising (λ i e. sym (starts_strictly n.rev (joined nodes (drop i parts))) ∙ below i e) (sym (starts_strictly n.rev (joined nodes (drop place parts))) ∙ above) ∙ ap (insert_node n) (sym (joined_by nodes parts j part within is))

  -- a node taken out of the last part that does not begin past its revision
  pub take_part : (rev : RevId) → nodes_rise (joined nodes parts) ≡ true → starts (is_within (record { rev = rev; or_equal = true })) (joined nodes (drop j parts)) ≡ true → starts (is_within (record { rev = rev; or_equal = true })) (joined nodes (drop (j + 1) parts)) ≡ false → joined nodes (take j parts) ++ (without rev (nodes (arc_value part)) ++ joined nodes (drop (j + 1) parts)) ≡ without rev (joined nodes parts)
  take_part rev rising first next =
      let by = joined_by nodes parts j part within is in
      let here = rw (joined_at nodes parts j part within is) at first in
      let all = rw by at rising in
      take_from_part rev (joined nodes (take j parts)) (nodes (arc_value part)) (joined nodes (drop (j + 1) parts)) all here next ∙ ap (without rev) (sym by)

  -- the last node that passes, where none does from the next part on
  pub last_some : (q : Node → Bool) (n : Node) → last_node q (joined nodes (drop (j + 1) parts)) ≡ None → last_node q (nodes (arc_value part)) ≡ Some n → last_node q (joined nodes parts) ≡ Some n
  last_some q n none some =
      let before = joined nodes (take j parts) in
      let here = nodes (arc_value part) in
      let after = joined nodes (drop (j + 1) parts) in
      ap (last_node q) (joined_by nodes parts j part within is) ∙ last_front q before (here ++ after) n (last_past q here after none ∙ some)

  pub last_none : (q : Node → Bool) → last_node q (joined nodes (drop (j + 1) parts)) ≡ None → last_node q (nodes (arc_value part)) ≡ None → last_node q (joined nodes (drop j parts)) ≡ None
  last_none q none here = ap (last_node q) (joined_at nodes parts j part within is) ∙ last_past q (nodes (arc_value part)) (joined nodes (drop (j + 1) parts)) none ∙ here

  pub leaves_step : (start old new : List Leaf) → old ≡ start ++ falling (joined nodes (drop (j + 1) parts)) → new ≡ old ++ falling (nodes (arc_value part)) → new ≡ start ++ falling (joined nodes (drop j parts))
  leaves_step start old new before added =
      let here = nodes (arc_value part) in
      let after = joined nodes (drop (j + 1) parts) in
      added ∙ ap (λ (ls : List Leaf). ls ++ falling here) before ∙ append_assoc start (falling after) (falling here) ∙ ap (λ (ls : List Leaf). start ++ ls) (sym (ap falling (joined_at nodes parts j part within is) ∙ falling_append here after))
