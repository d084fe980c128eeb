-- the tree of accepted writes has their revisions, their pairs and their leaves
use Rattle.std.proofs.Common.{◌≡◌, true, false, ◌&&◌, ◌||◌, not, Bool, List, [], ◌∷◌, ◌++◌, map, filter, refl, sym, ap, ◌∙◌, subst, inl, inr}
use Rattle.std.specs.Prelude.{◌≢◌, nat_lt}
use Rattle.std.specs.Ordering.{is_lt}
use Rattle.std.specs.List.{list_any, list_all}
use Rattle.std.specs.List.Sorted.{IsPermutation}
use Rattle.std.proofs.lemmas.List.Sorted.{IsPermutation-sym}
use Rattle.std.proofs.lemmas.Bool.{and_parts, or_left, or_right, or_cases, or_from, and_right, cases_Bool, false_from_ne_true, not-true, both_ways}
use Rattle.std.proofs.lemmas.List.Folds.{list_any-append}
use Rattle.std.proofs.lemmas.List.Elements.{filter-append}
use Rattle.sg_names.specs.declared.rev_id.RevId.{RevId}
use Rattle.sg_names.specs.RevId.{rev_cmp, same_rev}
use Rattle.rev_tree.specs.declared.leaf.Leaf.{Leaf}
use Rattle.rev_tree.specs.declared.tree.Node.{Node}
use Rattle.rev_tree.specs.Tree.{knows, is_this, has_pair, leaf_at, leaves_of, winner_of}
use Rattle.rev_tree.specs.Extension.{Recorded, falls, added, first_of, first_known, node_on, with_nodes, with_write}
use Rattle.rev_tree.specs.Rising.{nodes_rise, insert_node}
use Rattle.rev_tree.specs.Shape.{stands_on, is_tree, tips, without_this}
use Rattle.rev_tree.specs.Writes.{rev_among, path_of, revisions, RevPair, neighbours, pairs, has_pair_in, is_parent_in, is_deleted_in, leaves_in, winner_in, tree_of, only_last_known, is_accepted, AreAccepted}
use Rattle.rev_tree.proofs.Sames.{same_is_equal, same_itself, known_differs}
use Rattle.rev_tree.proofs.Hanging.{falls_past, other_generation, any_with, knows_with, write_tree, write_tips}
use Rattle.rev_tree.proofs.Firsts.{first_permuted}
use Rattle.rev_tree.proofs.Shuffles.{Shuffled, still, behind, twice, shuffled_permutes, filter_shuffled, put_leaves}

-- what an accepted write says
pub record Accepted (tree : List Node) (w : Recorded) : Type 0 where
  pub unknown : knows tree w.rev ≡ false
  pub history : falls (w.rev ∷ w.ancestors) ≡ true
  pub last : only_last_known tree w.ancestors ≡ true

pub accepted : (tree : List Node) (w : Recorded) → is_accepted tree w ≡ true → Accepted tree w
accepted tree w h =
    let parts = and_parts (not (knows tree w.rev) && falls (path_of w)) (only_last_known tree w.ancestors) h in
    let first = and_parts (not (knows tree w.rev)) (falls (path_of w)) parts.0 in
    record { unknown = not-true (knows tree w.rev) first.0; history = first.1; last = parts.1 }

or_assoc : (a b c : Bool) → (a || (b || c)) ≡ ((a || b) || c)
or_assoc true b c = refl
or_assoc false b c = refl

-- past a first ancestor
last_on : (tree : List Node) (a : RevId) (more : List RevId) → only_last_known tree (a ∷ more) ≡ true → only_last_known tree more ≡ true
last_on tree a [] h = refl
last_on tree a (b ∷ more) h = (and_parts (not (knows tree a)) (only_last_known tree (b ∷ more)) h).1

-- a known ancestor is the last one
last_known : (tree : List Node) (a : RevId) (more : List RevId) → only_last_known tree (a ∷ more) ≡ true → knows tree a ≡ true → more ≡ []
last_known tree a [] h known = refl
last_known tree a (b ∷ more) h known =
    let unknown = not-true (knows tree a) (and_parts (not (knows tree a)) (only_last_known tree (b ∷ more)) h).0 in
    absurd (both_ways (knows tree a) unknown known)

-- accepted writes make a tree
pub of_writes_tree : (writes : List Recorded) → AreAccepted writes → is_tree (tree_of writes) ≡ true
of_writes_tree [] h = refl
of_writes_tree (w ∷ older) h =
    let a = accepted (tree_of older) w h.0 in
    write_tree (tree_of older) w a.history a.unknown (of_writes_tree older h.1)

pub of_writes_rises : (writes : List Recorded) → AreAccepted writes → nodes_rise (tree_of writes) ≡ true
of_writes_rises writes h = (and_parts (nodes_rise (tree_of writes)) (list_all (λ (n : Node). stands_on (tree_of writes) n.rev n.parent) (tree_of writes)) (of_writes_tree writes h)).0

-- revisions

known_added : (tree : List Node) (ancestors : List RevId) (rev : RevId) → only_last_known tree ancestors ≡ true → knows (added tree ancestors ++ tree) rev ≡ (rev_among ancestors rev || knows tree rev)
known_added tree [] rev h = refl
known_added tree (a ∷ more) rev h =
    elim (cases_Bool (knows tree a)) [
      | inl e ↦
          let none = last_known tree a more h e in
          elim (cases_Bool (same_rev a rev)) [
            | inl s ↦ let known : knows tree rev ≡ true = subst (λ (r : RevId). knows tree r ≡ true) (same_is_equal a rev s) e in rw (e, s) known
            | inr s ↦ rw (e, s, none) refl
          ]
      | inr e ↦ elim (cases_Bool (same_rev a rev)) [ inl s ↦ rw (e, s) refl | inr s ↦ rw (e, s) (known_added tree more rev (last_on tree a more h)) ]
    ]

among-append : (xs ys : List RevId) (rev : RevId) → rev_among (xs ++ ys) rev ≡ (rev_among xs rev || rev_among ys rev)
among-append xs ys rev = list_any-append (λ (r : RevId). same_rev r rev) xs ys

pub same_revisions : (writes : List Recorded) (rev : RevId) → AreAccepted writes → knows (tree_of writes) rev ≡ rev_among (revisions writes) rev
same_revisions [] rev h = refl
same_revisions (w ∷ older) rev h =
    let a = accepted (tree_of older) w h.0 in
    let here = known_added (tree_of older) w.ancestors rev a.last in
    let all : (same_rev w.rev rev || knows (added (tree_of older) w.ancestors ++ tree_of older) rev) ≡ rev_among (revisions (w ∷ older)) rev =
    elim (cases_Bool (same_rev w.rev rev)) [
      | inl s ↦ rw s refl
      | inr s ↦ rw (s, here, among-append w.ancestors (revisions older) rev, same_revisions older rev h.1) refl
    ] in
    knows_with (node_on w ∷ added (tree_of older) w.ancestors) (tree_of older) rev ∙ all

-- after an accepted extension the tree knows what it knew, and the write's list
pub known_with : (tree : List Node) (w : Recorded) (rev : RevId) → is_accepted tree w ≡ true → knows (with_write tree w) rev ≡ (rev_among (path_of w) rev || knows tree rev)
known_with tree w rev h =
    let a = accepted tree w h in
    knows_with (node_on w ∷ added tree w.ancestors) tree rev ∙ ap (λ (b : Bool). same_rev w.rev rev || b) (known_added tree w.ancestors rev a.last) ∙ or_assoc (same_rev w.rev rev) (rev_among w.ancestors rev) (knows tree rev)

insert_some : (n : Node) (xs : List Node) → insert_node n xs ≢ []
insert_some n [] = λ h. cc
insert_some n (x ∷ xs) = λ h. elim (cases_Bool (is_lt (rev_cmp x.rev n.rev))) [ inl e ↦ let some : x ∷ insert_node n xs ≡ [] = rw e at h in cc | inr e ↦ let some : n ∷ x ∷ xs ≡ [] = rw e at h in cc ]

-- a tree with a write is not empty
pub written_some : (tree : List Node) (w : Recorded) → with_write tree w ≢ []
written_some tree w = insert_some (node_on w) (with_nodes (added tree w.ancestors) tree)

-- pairs

pairs_added : (tree : List Node) (x : RevId) (deleted : Bool) (ancestors : List RevId) (rev parent : RevId) → only_last_known tree ancestors ≡ true → has_pair (record { rev = x; parent = first_of ancestors; deleted = deleted } ∷ added tree ancestors ++ tree) rev parent ≡ (list_any (λ (p : RevPair). same_rev p.rev rev && same_rev p.parent parent) (neighbours (x ∷ ancestors)) || has_pair tree rev parent)
pairs_added tree x deleted [] rev parent h = rw (and_right (same_rev x rev) false refl) refl
pairs_added tree x deleted (a ∷ more) rev parent h =
    elim (cases_Bool (knows tree a)) [
      | inl e ↦
          let none = last_known tree a more h e in
          elim (cases_Bool (same_rev x rev && same_rev a parent)) [ inl s ↦ rw (e, s) refl | inr s ↦ rw (e, s, none) refl ]
      | inr e ↦
          elim (cases_Bool (same_rev x rev && same_rev a parent)) [ inl s ↦ rw (e, s) refl | inr s ↦ rw (e, s) (pairs_added tree a false more rev parent (last_on tree a more h)) ]
    ]

pub same_pairs : (writes : List Recorded) (rev parent : RevId) → AreAccepted writes → has_pair (tree_of writes) rev parent ≡ has_pair_in writes rev parent
same_pairs [] rev parent h = refl
same_pairs (w ∷ older) rev parent h =
    let a = accepted (tree_of older) w h.0 in
    let test : RevPair → Bool = λ p. same_rev p.rev rev && same_rev p.parent parent in
    any_with (λ (n : Node). same_rev n.rev rev && is_this n.parent parent) (node_on w ∷ added (tree_of older) w.ancestors) (tree_of older) ∙ pairs_added (tree_of older) w.rev w.deleted w.ancestors rev parent a.last ∙ ap (λ (b : Bool). list_any test (neighbours (path_of w)) || b) (same_pairs older rev parent h.1) ∙ sym (list_any-append test (neighbours (path_of w)) (pairs older))

-- leaves

-- the parents of a list are all but its first revision
parents_listed : (x : RevId) (ancestors : List RevId) (rev : RevId) → list_any (λ (p : RevPair). same_rev p.parent rev) (neighbours (x ∷ ancestors)) ≡ rev_among ancestors rev
parents_listed x [] rev = refl
parents_listed x (a ∷ more) rev = ap (λ (b : Bool). same_rev a rev || b) (parents_listed a more rev)

parents_with : (w : Recorded) (older : List Recorded) (rev : RevId) → is_parent_in (w ∷ older) rev ≡ (rev_among w.ancestors rev || is_parent_in older rev)
parents_with w older rev =
    let test : RevPair → Bool = λ p. same_rev p.parent rev in
    list_any-append test (neighbours (path_of w)) (pairs older) ∙ ap (λ (b : Bool). b || is_parent_in older rev) (parents_listed w.rev w.ancestors rev)

among_first : (xs ys : List RevId) (rev : RevId) → rev_among xs rev ≡ true → rev_among (xs ++ ys) rev ≡ true
among_first xs ys rev h = among-append xs ys rev ∙ or_left _ _ h

among_second : (xs ys : List RevId) (rev : RevId) → rev_among ys rev ≡ true → rev_among (xs ++ ys) rev ≡ true
among_second xs ys rev h = among-append xs ys rev ∙ or_right _ _ h

parents_among : (writes : List Recorded) (rev : RevId) → is_parent_in writes rev ≡ true → rev_among (revisions writes) rev ≡ true
parents_among [] rev h = h
parents_among (w ∷ older) rev h =
    or_right (same_rev w.rev rev) _
    (elim (or_cases (rev_among w.ancestors rev) (is_parent_in older rev) (sym (parents_with w older rev) ∙ h)) [
      | inl a ↦ among_first w.ancestors (revisions older) rev a
      | inr o ↦ among_second w.ancestors (revisions older) rev (parents_among older rev o)
    ])

deleted_among : (writes : List Recorded) (rev : RevId) → is_deleted_in writes rev ≡ true → rev_among (revisions writes) rev ≡ true
deleted_among [] rev h = h
deleted_among (w ∷ older) rev h =
    elim (or_cases (same_rev w.rev rev && w.deleted) (is_deleted_in older rev) h) [
      | inl a ↦ or_left _ _ (and_parts (same_rev w.rev rev) w.deleted a).0
      | inr o ↦ or_right (same_rev w.rev rev) _ (among_second w.ancestors (revisions older) rev (deleted_among older rev o))
    ]

-- a revision is none of its ancestors
no_ancestor : (x : RevId) (ancestors : List RevId) → falls (x ∷ ancestors) ≡ true → rev_among ancestors x ≡ false
no_ancestor x [] h = refl
no_ancestor x (a ∷ more) h =
    or_from _ _ (other_generation a x (and_parts (nat_lt a.generation x.generation) (falls (a ∷ more)) h).0) (no_ancestor x more (falls_past x a more h))

-- of what was there, the first known ancestor alone is listed
listed_known : (tree : List Node) (ancestors : List RevId) (rev : RevId) → only_last_known tree ancestors ≡ true → knows tree rev ≡ true → rev_among ancestors rev ≡ is_this (first_known tree ancestors) rev
listed_known tree [] rev h known = refl
listed_known tree (a ∷ more) rev h known =
    elim (cases_Bool (knows tree a)) [
      | inl e ↦
          let none = last_known tree a more h e in
          elim (cases_Bool (same_rev a rev)) [ inl s ↦ rw (e, s) refl | inr s ↦ rw (e, s, none) refl ]
      | inr e ↦ let differs : same_rev a rev ≡ false = known_differs tree a rev e known in rw (e, differs) (listed_known tree more rev (last_on tree a more h) known)
    ]

-- listed parents are no leaves
none_left : (parent : RevId → Bool) (revs : List RevId) → ((rev : RevId) → rev_among revs rev ≡ true → parent rev ≡ true) → filter (λ (r : RevId). not (parent r)) revs ≡ []
none_left parent [] h = refl
none_left parent (r ∷ more) h =
    let here : parent r ≡ true = h r (or_left _ _ (same_itself r)) in
    rw here (none_left parent more (λ rev k. h rev (or_right (same_rev r rev) (rev_among more rev) k)))

abbrev pub leaf_of : (RevId → Bool) → RevId → Leaf
leaf_of deleted r = record { rev = r; deleted = deleted r }

-- leaves without those that became parents
left : (new old gone now then' : RevId → Bool) (revs : List RevId) → ((rev : RevId) → rev_among revs rev ≡ true → (new rev ≡ (gone rev || old rev)) × (now rev ≡ then' rev)) → map (λ (r : RevId). leaf_of now r) (filter (λ (r : RevId). not (new r)) revs) ≡ filter (λ (l : Leaf). not (gone l.rev)) (map (λ (r : RevId). leaf_of then' r) (filter (λ (r : RevId). not (old r)) revs))
left new old gone now then' [] h = refl
left new old gone now then' (r ∷ more) h =
    let rest = left new old gone now then' more (λ rev k. h rev (or_right (same_rev r rev) (rev_among more rev) k)) in
    let here = h r (or_left _ _ (same_itself r)) in
    elim (cases_Bool (gone r)) [
      | inl g ↦
          let is : new r ≡ true = rw g at here.0 in
          elim (cases_Bool (old r)) [ inl o ↦ rw (is, o) rest | inr o ↦ rw (is, o, g) rest ]
      | inr g ↦
          elim (cases_Bool (old r)) [
            | inl o ↦ let is : new r ≡ true = rw (g, o) at here.0 in rw (is, o) rest
            | inr o ↦ let is : new r ≡ false = rw (g, o) at here.0 in rw (is, o, g, here.1) (ap (λ (ls : List Leaf). leaf_of then' r ∷ ls) rest)
          ]
    ]

leaves_past : (gone : RevId → Bool) (xs : List Node) → map (λ (n : Node). leaf_at n) (filter (λ (n : Node). not (gone n.rev)) xs) ≡ filter (λ (l : Leaf). not (gone l.rev)) (map (λ (n : Node). leaf_at n) xs)
leaves_past gone [] = refl
leaves_past gone (x ∷ xs) =
    elim (cases_Bool (gone x.rev)) [ inl e ↦ rw e (leaves_past gone xs) | inr e ↦ rw e (ap (λ (ls : List Leaf). leaf_at x ∷ ls) (leaves_past gone xs)) ]

shuffled_leaves : (writes : List Recorded) → AreAccepted writes → Shuffled (leaves_in writes) (leaves_of (tree_of writes))
shuffled_leaves [] h = still
shuffled_leaves (w ∷ older) h =
    let tree : List Node = tree_of older in
    let a = accepted tree w h.0 in
    let parent : RevId → Bool = λ r. is_parent_in (w ∷ older) r in
    let gone : RevId → Bool = λ r. is_this (first_known tree w.ancestors) r in
    let deleted : RevId → Bool = λ r. is_deleted_in (w ∷ older) r in
    let known : (r : RevId) → rev_among (revisions older) r ≡ true → knows tree r ≡ true = λ r k. same_revisions older r h.1 ∙ k in
    let unknown : (p : RevId → Bool) → (p w.rev ≡ true → rev_among (revisions older) w.rev ≡ true) → p w.rev ≡ false = λ p k. false_from_ne_true (p w.rev) (λ is. both_ways (knows tree w.rev) a.unknown (known w.rev (k is))) in
    let first : parent w.rev ≡ false = parents_with w older w.rev ∙ or_from _ _ (no_ancestor w.rev w.ancestors a.history) (unknown (λ r. is_parent_in older r) (λ k. parents_among older w.rev k)) in
    let mark : deleted w.rev ≡ w.deleted = rw (same_itself w.rev, unknown (λ r. is_deleted_in older r) (λ k. deleted_among older w.rev k)) (elim w.deleted as (λ b. (b || false) ≡ b) [ true ↦ refl | false ↦ refl ]) in
    let listed : filter (λ (r : RevId). not (parent r)) w.ancestors ≡ [] = none_left parent w.ancestors (λ rev k. parents_with w older rev ∙ or_left _ _ k) in
    let rest = left parent (λ r. is_parent_in older r) gone deleted (λ r. is_deleted_in older r) (revisions older) (λ rev k. (parents_with w older rev ∙ ap (λ (b : Bool). b || is_parent_in older rev) (listed_known tree w.ancestors rev a.last (known rev k)), rw (known_differs tree w.rev rev a.unknown (known rev k)) refl)) in
    let olds = shuffled_leaves older h.1 in
    let all : leaves_in (w ∷ older) ≡ record { rev = w.rev; deleted = w.deleted } ∷ filter (λ (l : Leaf). not (gone l.rev)) (leaves_in older) =
    rw (first, mark, filter-append (λ (r : RevId). not (parent r)) w.ancestors (revisions older), listed) (ap (λ (ls : List Leaf). record { rev = w.rev; deleted = w.deleted } ∷ ls) rest) in
    let keeps : Leaf → Bool = λ l. not (gone l.rev) in
    let rest : List Node = without_this (first_known tree w.ancestors) (tips tree) in
    let past : map (λ (n : Node). leaf_at n) rest ≡ filter keeps (leaves_of tree) = leaves_past gone (tips tree) in
    let one : Shuffled (leaf_at (node_on w) ∷ filter keeps (leaves_in older)) (leaf_at (node_on w) ∷ filter keeps (leaves_of tree)) = behind (filter_shuffled keeps olds) in
    let two : Shuffled (leaf_at (node_on w) ∷ filter keeps (leaves_of tree)) (map (λ (n : Node). leaf_at n) (insert_node (node_on w) rest)) = rw (← past) (put_leaves (node_on w) rest) in
    rw (all, write_tips tree w a.history a.unknown (of_writes_tree older h.1)) (twice one two)

pub same_leaves : (writes : List Recorded) → AreAccepted writes → IsPermutation (leaves_of (tree_of writes)) (leaves_in writes)
same_leaves writes h = IsPermutation-sym (leaves_in writes) (leaves_of (tree_of writes)) (shuffled_permutes (shuffled_leaves writes h))

pub same_winner : (writes : List Recorded) → AreAccepted writes → winner_of (tree_of writes) ≡ winner_in writes
same_winner writes h = first_permuted (leaves_of (tree_of writes)) (leaves_in writes) (same_leaves writes h)
