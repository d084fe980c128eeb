-- the tree with one more write: it is a tree, and its leaves are the new revision and those before without the one it hangs on
use Rattle.std.proofs.Common.{◌≡◌, true, false, ◌&&◌, ◌||◌, not, Bool, List, [], ◌∷◌, ◌++◌, refl, ap, sym, ◌∙◌, map, filter, arith, Option, Some, None, inl, inr}
use Rattle.std.specs.Prelude.{nat_eq, nat_lt}
use Rattle.std.specs.Str.{bytes_eq}
use Rattle.std.specs.List.{list_any, list_all}
use Rattle.std.specs.Ordering.{is_lt}
use Rattle.std.proofs.lemmas.Bool.{and_parts, and_from, or_left, or_right, or_from, or_cases, and_left, cases_Bool, ne_eqb, ltb-true, lt-ltb, false_from_ne_true, both_ways}
use Rattle.std.proofs.lemmas.List.Folds.{list_any-append, list_all-append}
use Rattle.sg_names.specs.declared.rev_id.RevId.{RevId}
use Rattle.sg_names.specs.RevId.{rev_cmp, same_rev}
use Rattle.rev_tree.specs.declared.leaf.Leaf.{Leaf}
use Rattle.rev_tree.specs.declared.tree.Node.{Node}
use Rattle.rev_tree.specs.Rising.{is_below_all, nodes_rise, insert_node}
use Rattle.rev_tree.specs.Tree.{knows, is_this, is_parent, leaf_at}
use Rattle.rev_tree.specs.Extension.{Recorded, falls, added, first_of, first_known, node_on, with_nodes, with_write}
use Rattle.rev_tree.specs.Shape.{stands_on, is_tree, tips, without_this}
use Rattle.rev_tree.proofs.Sames.{same_is_equal, same_itself, known_differs}
use Rattle.rev_tree.proofs.RevOrder.{less_or_greater, not_both_less}
use Rattle.rev_tree.proofs.Rises.{or_turn, or_false, below_lesser, rises_insert}

-- a history falls without its second revision too
pub falls_past : (x a : RevId) (more : List RevId) → falls (x ∷ a ∷ more) ≡ true → falls (x ∷ more) ≡ true
falls_past x a [] h = refl
falls_past x a (b ∷ more) h =
    let first = and_parts (nat_lt a.generation x.generation) (falls (a ∷ b ∷ more)) h in
    let second = and_parts (nat_lt b.generation a.generation) (falls (b ∷ more)) first.1 in
    let low = ltb-true a.generation x.generation first.0 in
    let lower = ltb-true b.generation a.generation second.0 in
    and_from _ _ (lt-ltb b.generation x.generation (omega arith)) second.1

-- a revision of another generation is another
pub other_generation : (a x : RevId) → nat_lt a.generation x.generation ≡ true → same_rev a x ≡ false
other_generation a x h =
    let low = ltb-true a.generation x.generation h in
    and_left (nat_eq a.generation x.generation) (bytes_eq a.digest x.digest) (ne_eqb a.generation x.generation (λ e. omega arith))

-- a revision of a lesser generation is less
lower_less : (a x : RevId) → nat_lt a.generation x.generation ≡ true → is_lt (rev_cmp a x) ≡ true
lower_less a x h = rw h refl

-- a revision that the tree lacks is not among the ancestors that are added below it
pub still_unknown : (tree : List Node) (x : RevId) (ancestors : List RevId) → falls (x ∷ ancestors) ≡ true → knows tree x ≡ false → knows (added tree ancestors ++ tree) x ≡ false
still_unknown tree x [] h unknown = unknown
still_unknown tree x (a ∷ more) h unknown =
    elim (cases_Bool (knows tree a)) [
      | inl e ↦ rw e unknown
      | inr e ↦ rw e (or_from _ _ (other_generation a x (and_parts (nat_lt a.generation x.generation) (falls (a ∷ more)) h).0) (still_unknown tree x more (falls_past x a more h) unknown))
    ]

-- what holds of some node, and of each, once nodes are put

pub any_insert : (p : Node → Bool) (n : Node) (xs : List Node) → list_any p (insert_node n xs) ≡ (p n || list_any p xs)
any_insert p n [] = refl
any_insert p n (x ∷ xs) =
    elim (cases_Bool (is_lt (rev_cmp x.rev n.rev))) [
      | inl e ↦ rw (e, any_insert p n xs) (or_turn (p x) (p n) (list_any p xs))
      | inr e ↦ rw e refl
    ]

pub any_with : (p : Node → Bool) (ns tree : List Node) → list_any p (with_nodes ns tree) ≡ list_any p (ns ++ tree)
any_with p [] tree = refl
any_with p (n ∷ ns) tree = any_insert p n (with_nodes ns tree) ∙ ap (λ (b : Bool). p n || b) (any_with p ns tree)

and_turn : (a b c : Bool) → (a && (b && c)) ≡ (b && (a && c))
and_turn true true c = refl
and_turn true false c = refl
and_turn false true c = refl
and_turn false false c = refl

all_insert : (p : Node → Bool) (n : Node) (xs : List Node) → list_all p (insert_node n xs) ≡ (p n && list_all p xs)
all_insert p n [] = refl
all_insert p n (x ∷ xs) =
    elim (cases_Bool (is_lt (rev_cmp x.rev n.rev))) [
      | inl e ↦ rw (e, all_insert p n xs) (and_turn (p x) (p n) (list_all p xs))
      | inr e ↦ rw e refl
    ]

all_with : (p : Node → Bool) (ns tree : List Node) → list_all p (with_nodes ns tree) ≡ list_all p (ns ++ tree)
all_with p [] tree = refl
all_with p (n ∷ ns) tree = all_insert p n (with_nodes ns tree) ∙ ap (λ (b : Bool). p n && b) (all_with p ns tree)

-- what is known once nodes are put
pub knows_with : (ns tree : List Node) (rev : RevId) → knows (with_nodes ns tree) rev ≡ knows (ns ++ tree) rev
knows_with ns tree rev = any_with (λ (n : Node). same_rev n.rev rev) ns tree

pub unknown_with : (tree : List Node) (x : RevId) (ancestors : List RevId) → falls (x ∷ ancestors) ≡ true → knows tree x ≡ false → knows (with_nodes (added tree ancestors) tree) x ≡ false
unknown_with tree x ancestors h unknown = knows_with (added tree ancestors) tree x ∙ still_unknown tree x ancestors h unknown

-- it rises

pub added_rises : (tree : List Node) (x : RevId) (ancestors : List RevId) → falls (x ∷ ancestors) ≡ true → nodes_rise tree ≡ true → nodes_rise (with_nodes (added tree ancestors) tree) ≡ true
added_rises tree x [] h rising = rising
added_rises tree x (a ∷ more) h rising =
    let below : falls (a ∷ more) ≡ true = (and_parts (nat_lt a.generation x.generation) (falls (a ∷ more)) h).1 in
    elim (cases_Bool (knows tree a)) [
      | inl e ↦ rw e rising
      | inr e ↦ rw e (rises_insert (record { rev = a; parent = first_of more; deleted = false }) (with_nodes (added tree more) tree) (added_rises tree a more below rising) (unknown_with tree a more below e))
    ]

pub write_rises : (tree : List Node) (w : Recorded) → falls (w.rev ∷ w.ancestors) ≡ true → knows tree w.rev ≡ false → nodes_rise tree ≡ true → nodes_rise (with_write tree w) ≡ true
write_rises tree w h unknown rising =
    rises_insert (node_on w) (with_nodes (added tree w.ancestors) tree) (added_rises tree w.rev w.ancestors h rising) (unknown_with tree w.rev w.ancestors h unknown)

-- each parent stands before its child

hung : (tree all : List Node) (x : RevId) (deleted : Bool) (ancestors : List RevId) → falls (x ∷ ancestors) ≡ true → ((rev : RevId) → knows (added tree ancestors ++ tree) rev ≡ true → knows all rev ≡ true) → list_all (λ (n : Node). stands_on all n.rev n.parent) (record { rev = x; parent = first_of ancestors; deleted = deleted } ∷ added tree ancestors) ≡ true
hung tree all x deleted [] h k = refl
hung tree all x deleted (a ∷ more) h k =
    let parts = and_parts (nat_lt a.generation x.generation) (falls (a ∷ more)) h in
    let less = lower_less a x parts.0 in
    elim (cases_Bool (knows tree a)) [
      | inl e ↦
          let known : knows all a ≡ true = k a (rw e e) in
          rw e (and_from _ _ (and_from _ _ known less) refl)
      | inr e ↦
          let known : knows all a ≡ true = k a (rw e (or_left _ _ (same_itself a))) in
          rw e (and_from _ _ (and_from _ _ known less) (hung tree all a false more parts.1 (λ rev j. k rev (rw e (or_right (same_rev a rev) (knows (added tree more ++ tree) rev) j)))))
    ]

stands_still : (one all : List Node) → ((rev : RevId) → knows one rev ≡ true → knows all rev ≡ true) → (rev : RevId) (parent : Option RevId) → stands_on one rev parent ≡ true → stands_on all rev parent ≡ true
stands_still one all k rev None h = refl
stands_still one all k rev (Some p) h = let parts = and_parts (knows one p) (is_lt (rev_cmp p rev)) h in and_from _ _ (k p parts.0) parts.1

all_stand_still : (one all : List Node) → ((rev : RevId) → knows one rev ≡ true → knows all rev ≡ true) → (xs : List Node) → list_all (λ (n : Node). stands_on one n.rev n.parent) xs ≡ true → list_all (λ (n : Node). stands_on all n.rev n.parent) xs ≡ true
all_stand_still one all k [] h = refl
all_stand_still one all k (x ∷ xs) h =
    let parts = and_parts (stands_on one x.rev x.parent) (list_all (λ (n : Node). stands_on one n.rev n.parent) xs) h in
    and_from _ _ (stands_still one all k x.rev x.parent parts.0) (all_stand_still one all k xs parts.1)

known_behind : (xs tree : List Node) (rev : RevId) → knows tree rev ≡ true → knows (xs ++ tree) rev ≡ true
known_behind xs tree rev h = list_any-append (λ (n : Node). same_rev n.rev rev) xs tree ∙ or_right (knows xs rev) (knows tree rev) h

-- in a tree that knows all of them the write's nodes stand on their parents
all_stand : (tree all : List Node) (w : Recorded) → falls (w.rev ∷ w.ancestors) ≡ true → is_tree tree ≡ true → ((rev : RevId) → knows (added tree w.ancestors ++ tree) rev ≡ true → knows all rev ≡ true) → list_all (λ (n : Node). stands_on all n.rev n.parent) ((node_on w ∷ added tree w.ancestors) ++ tree) ≡ true
all_stand tree all w h is k =
    let old = (and_parts (nodes_rise tree) (list_all (λ (n : Node). stands_on tree n.rev n.parent) tree) is).1 in
    list_all-append (λ (n : Node). stands_on all n.rev n.parent) (node_on w ∷ added tree w.ancestors) tree ∙
    and_from _ _ (hung tree all w.rev w.deleted w.ancestors h k) (all_stand_still tree all (λ rev j. k rev (known_behind (added tree w.ancestors) tree rev j)) tree old)

-- the tree with the write is a tree
pub write_tree : (tree : List Node) (w : Recorded) → falls (w.rev ∷ w.ancestors) ≡ true → knows tree w.rev ≡ false → is_tree tree ≡ true → is_tree (with_write tree w) ≡ true
write_tree tree w h unknown is =
    let rising = (and_parts (nodes_rise tree) (list_all (λ (n : Node). stands_on tree n.rev n.parent) tree) is).0 in
    let known : (rev : RevId) → knows (added tree w.ancestors ++ tree) rev ≡ true → knows (with_write tree w) rev ≡ true = λ rev k. knows_with (node_on w ∷ added tree w.ancestors) tree rev ∙ or_right (same_rev w.rev rev) (knows (added tree w.ancestors ++ tree) rev) k in
    and_from _ _ (write_rises tree w h unknown rising) (all_with (λ (n : Node). stands_on (with_write tree w) n.rev n.parent) (node_on w ∷ added tree w.ancestors) tree ∙ all_stand tree (with_write tree w) w h is known)

-- the new revision is no parent

this_known : (all : List Node) (rev : RevId) (parent : Option RevId) (r : RevId) → stands_on all rev parent ≡ true → is_this parent r ≡ true → knows all r ≡ true
this_known all rev None r h this = cc
this_known all rev (Some p) r h this = let e = same_is_equal p r this in let known : knows all p ≡ true = (and_parts (knows all p) (is_lt (rev_cmp p rev)) h).0 in rw e at known

-- each parent is a revision of the tree
pub parents_known : (all xs : List Node) (rev : RevId) → list_all (λ (n : Node). stands_on all n.rev n.parent) xs ≡ true → is_parent xs rev ≡ true → knows all rev ≡ true
parents_known all [] rev h this = cc
parents_known all (n ∷ more) rev h this =
    let parts = and_parts (stands_on all n.rev n.parent) (list_all (λ (m : Node). stands_on all m.rev m.parent) more) h in
    elim (or_cases (is_this n.parent rev) (is_parent more rev) this) [ inl here ↦ this_known all n.rev n.parent rev parts.0 here | inr later ↦ parents_known all more rev parts.1 later ]

pub written_is_no_parent : (tree : List Node) (w : Recorded) → falls (w.rev ∷ w.ancestors) ≡ true → knows tree w.rev ≡ false → is_tree tree ≡ true → is_parent (with_write tree w) w.rev ≡ false
written_is_no_parent tree w h unknown is =
    let middle = with_nodes (added tree w.ancestors) tree in
    let nodes = node_on w ∷ added tree w.ancestors in
    let stand = all_stand tree middle w h is (λ rev k. knows_with (added tree w.ancestors) tree rev ∙ k) in
    any_with (λ (n : Node). is_this n.parent w.rev) nodes tree ∙ false_from_ne_true (is_parent (nodes ++ tree) w.rev) (λ this. both_ways (knows middle w.rev) (unknown_with tree w.rev w.ancestors h unknown) (parents_known middle (nodes ++ tree) w.rev stand this))

-- leaves, where such revisions are parents
abbrev pub leaves_by : (RevId → Bool) → List Node → List Leaf
leaves_by parent nodes = map (λ n. leaf_at n) (filter (λ n. not (parent n.rev)) nodes)

-- whether a revision is a parent in the tree with a write
abbrev pub parent_after : List Node → List RevId → RevId → Bool
parent_after tree ancestors rev = is_this (first_of ancestors) rev || is_parent (added tree ancestors ++ tree) rev

-- of what was in the tree, the first known ancestor alone becomes a parent
pub parents_after : (tree : List Node) (ancestors : List RevId) (rev : RevId) → knows tree rev ≡ true → parent_after tree ancestors rev ≡ (is_this (first_known tree ancestors) rev || is_parent tree rev)
parents_after tree [] rev known = refl
parents_after tree (a ∷ more) rev known =
    elim (cases_Bool (knows tree a)) [
      | inl e ↦ rw e refl
      | inr e ↦ let differs : same_rev a rev ≡ false = known_differs tree a rev e known in rw (e, differs) (parents_after tree more rev known)
    ]

-- a node that does not pass does not show
hidden_insert : (p : Node → Bool) (n : Node) (xs : List Node) → p n ≡ false → filter p (insert_node n xs) ≡ filter p xs
hidden_insert p n [] h = rw h refl
hidden_insert p n (x ∷ xs) h =
    elim (cases_Bool (is_lt (rev_cmp x.rev n.rev))) [
      | inl e ↦ elim (cases_Bool (p x)) [ inl q ↦ rw (e, q) (ap (λ (ns : List Node). x ∷ ns) (hidden_insert p n xs h)) | inr q ↦ rw (e, q) (hidden_insert p n xs h) ]
      | inr e ↦ rw (e, h) refl
    ]

insert_below : (n : Node) (xs : List Node) → is_below_all n.rev xs ≡ true → insert_node n xs ≡ n ∷ xs
insert_below n [] h = refl
insert_below n (x ∷ xs) h =
    let less = (and_parts (is_lt (rev_cmp n.rev x.rev)) (is_below_all n.rev xs) h).0 in
    rw (not_both_less n.rev x.rev less) refl

below_filter : (rev : RevId) (p : Node → Bool) (xs : List Node) → is_below_all rev xs ≡ true → is_below_all rev (filter p xs) ≡ true
below_filter rev p [] h = refl
below_filter rev p (x ∷ xs) h =
    let parts = and_parts (is_lt (rev_cmp rev x.rev)) (is_below_all rev xs) h in
    elim (cases_Bool (p x)) [ inl e ↦ rw e (and_from _ _ parts.0 (below_filter rev p xs parts.1)) | inr e ↦ rw e (below_filter rev p xs parts.1) ]

pub rises_filter : (p : Node → Bool) (xs : List Node) → nodes_rise xs ≡ true → nodes_rise (filter p xs) ≡ true
rises_filter p [] h = refl
rises_filter p (x ∷ xs) h =
    let parts = and_parts (is_below_all x.rev xs) (nodes_rise xs) h in
    elim (cases_Bool (p x)) [ inl e ↦ rw e (and_from _ _ (below_filter x.rev p xs parts.0) (rises_filter p xs parts.1)) | inr e ↦ rw e (rises_filter p xs parts.1) ]

-- a node that passes is put among those that pass
shown_insert : (p : Node → Bool) (n : Node) (xs : List Node) → nodes_rise xs ≡ true → knows xs n.rev ≡ false → p n ≡ true → filter p (insert_node n xs) ≡ insert_node n (filter p xs)
shown_insert p n [] rising unknown h = rw h refl
shown_insert p n (x ∷ xs) rising unknown h =
    let parts = and_parts (is_below_all x.rev xs) (nodes_rise xs) rising in
    let differs = or_false (same_rev x.rev n.rev) (knows xs n.rev) unknown in
    elim (cases_Bool (is_lt (rev_cmp x.rev n.rev))) [
      | inl e ↦
          let rest = shown_insert p n xs parts.1 differs.1 h in
          elim (cases_Bool (p x)) [ inl q ↦ rw (e, q) (rw e (ap (λ (ns : List Node). x ∷ ns) rest)) | inr q ↦ rw (e, q) rest ]
      | inr e ↦
          let less = less_or_greater x.rev n.rev e differs.0 in
          let below : is_below_all n.rev (x ∷ xs) ≡ true = and_from _ _ less (below_lesser n.rev x.rev xs less parts.0) in
          rw (e, h) (sym (insert_below n (filter p (x ∷ xs)) (below_filter n.rev p (x ∷ xs) below)))
    ]

-- the ancestors that are added do not show
added_hidden : (tree : List Node) (parent : RevId → Bool) (ancestors : List RevId) → ((rev : RevId) → parent_after tree ancestors rev ≡ true → parent rev ≡ true) → filter (λ (n : Node). not (parent n.rev)) (with_nodes (added tree ancestors) tree) ≡ filter (λ (n : Node). not (parent n.rev)) tree
added_hidden tree parent [] h = refl
added_hidden tree parent (a ∷ more) h =
    elim (cases_Bool (knows tree a)) [
      | inl e ↦ rw e refl
      | inr e ↦
          let hides : parent a ≡ true = h a (or_left _ _ (same_itself a)) in
          let gone : not (parent a) ≡ false = rw hides refl in
          rw e (hidden_insert (λ (n : Node). not (parent n.rev)) (record { rev = a; parent = first_of more; deleted = false }) (with_nodes (added tree more) tree) gone ∙ added_hidden tree parent more (λ rev k. h rev (rw e (or_right (same_rev a rev) _ k))))
    ]

-- nodes without those that became parents
nodes_without : (new old gone : RevId → Bool) (nodes : List Node) → ((rev : RevId) → knows nodes rev ≡ true → new rev ≡ (gone rev || old rev)) → filter (λ (n : Node). not (new n.rev)) nodes ≡ filter (λ (n : Node). not (gone n.rev)) (filter (λ (n : Node). not (old n.rev)) nodes)
nodes_without new old gone [] h = refl
nodes_without new old gone (n ∷ ns) h =
    let rest = nodes_without new old gone ns (λ rev k. h rev (or_right (same_rev n.rev rev) (knows ns rev) k)) in
    let here : new n.rev ≡ (gone n.rev || old n.rev) = h n.rev (or_left _ _ (same_itself n.rev)) in
    elim (cases_Bool (gone n.rev)) [
      | inl g ↦
          let now : new n.rev ≡ true = rw g at here in
          elim (cases_Bool (old n.rev)) [ inl o ↦ rw (now, o) rest | inr o ↦ rw (now, o) (rw g rest) ]
      | inr g ↦
          elim (cases_Bool (old n.rev)) [
            | inl o ↦ let now : new n.rev ≡ true = rw (g, o) at here in rw (now, o) rest
            | inr o ↦ let now : new n.rev ≡ false = rw (g, o) at here in rw (now, o) (rw g (ap (λ (ms : List Node). n ∷ ms) rest))
          ]
    ]

-- the nodes of the leaves with a write: its own, and those before without the first known ancestor
pub write_tips : (tree : List Node) (w : Recorded) → falls (w.rev ∷ w.ancestors) ≡ true → knows tree w.rev ≡ false → is_tree tree ≡ true → tips (with_write tree w) ≡ insert_node (node_on w) (without_this (first_known tree w.ancestors) (tips tree))
write_tips tree w h unknown is =
    let rising = (and_parts (nodes_rise tree) (list_all (λ (n : Node). stands_on tree n.rev n.parent) tree) is).0 in
    let middle = with_nodes (added tree w.ancestors) tree in
    let parent : RevId → Bool = λ rev. is_parent (with_write tree w) rev in
    let after : (rev : RevId) → parent rev ≡ parent_after tree w.ancestors rev = λ rev. any_with (λ (n : Node). is_this n.parent rev) (node_on w ∷ added tree w.ancestors) tree in
    let free : parent w.rev ≡ false = written_is_no_parent tree w h unknown is in
    let shows : not (parent w.rev) ≡ true = rw free refl in
    let put = shown_insert (λ (n : Node). not (parent n.rev)) (node_on w) middle (added_rises tree w.rev w.ancestors h rising) (unknown_with tree w.rev w.ancestors h unknown) shows in
    let hidden = added_hidden tree parent w.ancestors (λ rev k. after rev ∙ k) in
    let fewer = nodes_without parent (λ rev. is_parent tree rev) (λ rev. is_this (first_known tree w.ancestors) rev) tree (λ rev k. after rev ∙ parents_after tree w.ancestors rev k) in
    put ∙ ap (insert_node (node_on w)) (hidden ∙ fewer)
