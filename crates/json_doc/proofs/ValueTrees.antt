-- The values of `serde_json`, beside the trees that they mean.
use Rattle.std.proofs.Common.{◌≡◌, ℕ, ◌+◌, ◌<◌, List, [], ◌∷◌, ◌++◌, length, take, get_or, String, Global, string_bytes, refl, sym, ap, ◌∙◌}
use Rattle.std.proofs.lemmas.List.{take_more}
use Rattle.std.specs.List.Sorted.{IsStrictlySortedBy}
use Rattle.std.specs.Map.{keys_of}
use Rattle.std.specs.String.{string_cmp}
use Rattle.serde_json.specs.declared.value.Value.{Value}
use Rattle.serde_json.specs.View.{view, items_view, members_view}
use Rattle.json_doc.specs.Tree.{Tree, add_tree, put_field}
use Rattle.json_doc.specs.Reading.{tree_of, trees_of, fields_of}
use Rattle.json_doc.proofs.NodeTrees.{fields_by, put_last}

abbrev pub Entry : Type 0
Entry = String Global × Value

-- the tree that a value means
abbrev pub value_tree : Value → Tree
value_tree v = tree_of (view v)

trees_of-push : (vs : List Value) (v : Value) → trees_of (items_view (vs ++ v ∷ [])) ≡ add_tree (trees_of (items_view vs)) (value_tree v)
trees_of-push [] v = refl
trees_of-push (w ∷ vs) v = rw (trees_of-push vs v)

-- one value more
pub trees_of-take_more : (vs : List Value) (i : ℕ) (v : Value) → i < length vs → v ≡ get_or vs i v → trees_of (items_view (take (i + 1) vs)) ≡ add_tree (trees_of (items_view (take i vs))) (value_tree v)
trees_of-take_more vs i v h is =
    ap (λ ws. trees_of (items_view ws)) (take_more vs i v h)
    ∙ trees_of-push (take i vs) (get_or vs i v)
    ∙ ap (λ w. add_tree (trees_of (items_view (take i vs))) (value_tree w)) (sym is)

fields_by-value_tree : (es : List Entry) → fields_by value_tree es ≡ fields_of (members_view es)
fields_by-value_tree [] = refl
fields_by-value_tree (e ∷ es) = rw (fields_by-value_tree es)

-- a name that is above those before it goes last
pub fields_of-put_last : (done : List Entry) (e : Entry) (more : List Entry) → IsStrictlySortedBy string_cmp (keys_of (done ++ e ∷ more))
    → put_field (string_bytes e.0) (value_tree e.1) (fields_of (members_view done)) ≡ fields_of (members_view (done ++ e ∷ []))
fields_of-put_last done e more h =
    ap (put_field (string_bytes e.0) (value_tree e.1)) (sym (fields_by-value_tree done))
    ∙ put_last value_tree done e more h ∙ fields_by-value_tree (done ++ e ∷ [])
