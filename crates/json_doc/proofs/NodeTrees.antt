-- Nodes level by level, and a map beside the members that it stands for.
use Rattle.std.proofs.Common.{◌≡◌, ℕ, ◌+◌, List, [], ◌∷◌, ◌++◌, length, take, get_or, ◌<◌, map, Option, Some, None, option_map, String, BTreeMap, Vec, Global, Ordering, Less, Equal, Greater, string_bytes, string_cmp, nat_cmp, cond, Bool, true, false, bytes_eq, Bor, refl, sym, ap, ◌∙◌, arith, rules}
use Rattle.std.proofs.lemmas.List.{take_more}
use Rattle.std.proofs.lemmas.Cmp.{nat_list_cmp_total}
use Rattle.std.proofs.lemmas.Map.Text.{is_eq-slice_cmp}
use Rattle.std.specs.Cmp.Lexicographic.{slice_cmp}
use Rattle.std.specs.List.{AllByRecursion}
use Rattle.std.specs.List.Sorted.{IsStrictlySortedBy}
use Rattle.std.specs.Map.{keys_of, lookup}
use Rattle.std.specs.Ordering.{match_ordering, ordering_reverse}
use Rattle.std.specs.BTreeMap.{insert_entry, is_at}
use Rattle.json_doc.specs.Tree.{Tree, Fields, field, get_field, put_field, add_tree, tree_count, field_count}
use Rattle.json_doc.specs.View.{node_tree, nodes_trees, members_fields, row_trees, entry_fields, under_names}
use Rattle.json_doc.specs.declared.node.Node.{Node}
use Rattle.json_doc.specs.declared.node.Nodes.{Nodes, out-Nodes, roll-Nodes}
use Rattle.json_doc.specs.declared.node.Members.{Members, out-Members, roll-Members, the_lemmas}

abbrev pub Entry : Type 0
Entry = String Global × Node

pub nodes_trees-out : (ns : Nodes) → nodes_trees ns ≡ row_trees (out-Nodes ns).items.items
nodes_trees-out ns = search (rules, the_lemmas)

pub members_fields-out : (ms : Members) → members_fields ms ≡ entry_fields (out-Members ms).map.entries
members_fields-out ms = search (rules, the_lemmas)

pub members_fields-roll : (m : BTreeMap (String Global) Node) → members_fields (roll-Members record { map = m }) ≡ entry_fields m.entries
members_fields-roll m = search (rules, the_lemmas)

pub nodes_trees-roll : (v : Vec Node Global) → nodes_trees (roll-Nodes record { items = v }) ≡ row_trees v.items
nodes_trees-roll v = search (rules, the_lemmas)

pub row_trees-push : (ns : List Node) (n : Node) → row_trees (ns ++ n ∷ []) ≡ add_tree (row_trees ns) (node_tree n)
row_trees-push [] n = refl
row_trees-push (m ∷ ns) n = rw (row_trees-push ns n)

-- one node more
pub row_trees-take_more : (ns : List Node) (i : ℕ) (n : Node) → i < length ns → n ≡ get_or ns i n → row_trees (take (i + 1) ns) ≡ add_tree (row_trees (take i ns)) (node_tree n)
row_trees-take_more ns i n h is = ap row_trees (take_more ns i n h) ∙ row_trees-push (take i ns) (get_or ns i n) ∙ ap (λ m. add_tree (row_trees (take i ns)) (node_tree m)) (sym is)

pub tree_count-row_trees : (ns : List Node) → length ns ≡ tree_count (row_trees ns)
tree_count-row_trees [] = refl
tree_count-row_trees (n ∷ ns) = omega (arith, tree_count-row_trees ns)

pub field_count-entry_fields : (es : List Entry) → length es ≡ field_count (entry_fields es)
field_count-entry_fields [] = refl
field_count-entry_fields (e ∷ es) = omega (arith, field_count-entry_fields es)

-- the members that entries are, each value seen by g
abbrev pub fields_by : {X : Type 0} → (X → Tree) → List (String Global × X) → Fields
fields_by g es = under_names (map (λ e. (e.0, g e.1)) es)

fields-match_ordering : (o : Ordering) (a b c : List Entry) → entry_fields (match_ordering o a b c) ≡ match_ordering o (entry_fields a) (entry_fields b) (entry_fields c)
fields-match_ordering Less a b c = refl
fields-match_ordering Equal a b c = refl
fields-match_ordering Greater a b c = refl

pub entry_fields-insert_entry : (es : List Entry) (k : String Global) (n : Node) → entry_fields (insert_entry string_cmp es k n) ≡ put_field (string_bytes k) (node_tree n) (entry_fields es)
entry_fields-insert_entry [] k n = refl
entry_fields-insert_entry (e ∷ es) k n = fields-match_ordering (string_cmp k e.0) _ _ _ ∙ rw (entry_fields-insert_entry es k n)

below_middle : {X : Type 0} (first : String Global × X) (es : List (String Global × X)) (e : String Global × X) (more : List (String Global × X)) → AllByRecursion (λ y. string_cmp first.0 y ≡ Less) (keys_of (es ++ e ∷ more)) → string_cmp first.0 e.0 ≡ Less
below_middle first [] e more h = h.0
below_middle first (x ∷ es) e more h = below_middle first es e more h.1

-- a name that is above those before it goes last
pub put_last : {X : Type 0} (g : X → Tree) (done : List (String Global × X)) (e : String Global × X) (more : List (String Global × X)) → IsStrictlySortedBy string_cmp (keys_of (done ++ e ∷ more))
    → put_field (string_bytes e.0) (g e.1) (fields_by g done) ≡ fields_by g (done ++ e ∷ [])
unfolding IsStrictlySortedBy
put_last g [] e more h = refl
put_last g (first ∷ done) e more h =
    let above : slice_cmp nat_cmp (string_bytes e.0) (string_bytes first.0) ≡ Greater =
    nat_list_cmp_total.antisymm (string_bytes e.0) (string_bytes first.0) ∙ ap ordering_reverse (below_middle first done e more h.0) in
    rw above (ap (field (string_bytes first.0) (g first.1)) (put_last g done e more h.1))

found_or : (b : Bool) (n : Node) (rest : Option Node) (t : Option Tree) → option_map node_tree rest ≡ t → option_map node_tree (cond b (Some n) rest) ≡ cond b (Some (node_tree n)) t
found_or true n rest t e = refl
found_or false n rest t e = e

pub trees-lookup : (name : List ℕ) (es : List Entry) → option_map node_tree (lookup (is_at (λ k. slice_cmp nat_cmp name (string_bytes k))) es) ≡ get_field name (entry_fields es)
trees-lookup name [] = refl
trees-lookup name (e ∷ es) = rw (is_eq-slice_cmp name (string_bytes e.0)) (found_or (bytes_eq name (string_bytes e.0)) e.1 _ _ (trees-lookup name es))

pub tree_of_ref : (r : Option (Bor Node)) → option_map (λ n. node_tree n.now) r ≡ option_map node_tree (option_map (λ n. n.now) r)
tree_of_ref None = refl
tree_of_ref (Some n) = refl
