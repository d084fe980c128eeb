-- What a reply wants.
use Rattle.std.proofs.Common.{◌≡◌, ℕ, zero, suc, ◌+◌, ◌-◌, ◌<◌, Bool, true, false, IsTrue, List, [], ◌∷◌, ◌++◌, drop, Some, None, IsUtf8, refl, sym, ap, ◌∙◌, append_assoc, add-one, arith}
use Rattle.std.proofs.Math.Seq.{drop-nil}
use Rattle.std.specs.Str.{is_utf8}
use Rattle.std.proofs.lemmas.Str.{is_utf8-from_IsUtf8, IsUtf8-from_is_utf8}
use Rattle.serde_json.specs.Data.{Data}
use Rattle.serde_json.specs.Read.{read}
use Rattle.serde_json.specs.View.{items_view}
use Rattle.serde_json.specs.declared.value.Value.{Value}
use Rattle.repl_messages.specs.Json.{json_of}
use Rattle.repl_messages.specs.Wanted.{is_first_array, further, wanted_rows}

pub json-read : (bytes : List ℕ) (d : Data) → IsUtf8 bytes → read bytes ≡ Some d → Some d ≡ json_of bytes
json-read bytes d h e = rw (is_utf8-from_IsUtf8 bytes h) (sym e)

json-where : (bytes : List ℕ) (r : Bool) → is_utf8 bytes ≡ r → (IsUtf8 bytes → read bytes ≡ None) → None ≡ json_of bytes
json-where bytes true e h = rw e (sym (h (IsUtf8-from_is_utf8 bytes e)))
json-where bytes false e h = rw e refl

pub json-unread : (bytes : List ℕ) → (IsUtf8 bytes → read bytes ≡ None) → None ≡ json_of bytes
json-unread bytes h = json-where bytes (is_utf8 bytes) refl h

further-drop : (xs : List Value) (i : ℕ) → further (items_view (drop i xs)) ≡ items_view (drop (suc i) xs)
further-drop [] i = rw (drop-nil {A = Value} i) refl
further-drop (x ∷ xs) zero = refl
further-drop (x ∷ xs) (suc i) = further-drop xs i

rows-more : (rows i n : ℕ) (xs : List Value) → rows ≡ suc n → wanted_rows rows (items_view (drop i xs)) ≡ is_first_array (items_view (drop i xs)) ∷ wanted_rows n (items_view (drop (suc i) xs))
rows-more rows i n xs e = ap (λ k. wanted_rows k (items_view (drop i xs))) e ∙ ap (λ ds. is_first_array (items_view (drop i xs)) ∷ wanted_rows n ds) (further-drop xs i)

-- one more flag
pub flag-more : (done new all : List Bool) (flag : Bool) (rows i : ℕ) (xs : List Value) → i < rows → done ++ wanted_rows (rows - i) (items_view (drop i xs)) ≡ all
    → flag ≡ is_first_array (items_view (drop i xs)) → new ≡ done ++ flag ∷ [] → new ++ wanted_rows (rows - (i + 1)) (items_view (drop (i + 1) xs)) ≡ all
flag-more done new all flag rows i xs low e f g =
    let n : ℕ = rows - (i + 1) in
    let count : rows - i ≡ suc n = omega arith in
    let rest : List Bool = wanted_rows n (items_view (drop (i + 1) xs)) in
    let next : flag ∷ rest ≡ wanted_rows (rows - i) (items_view (drop i xs)) =
    ap (λ b. b ∷ rest) f
    ∙ ap (λ k. is_first_array (items_view (drop i xs)) ∷ wanted_rows n (items_view (drop k xs))) (add-one i)
    ∙ sym (rows-more (rows - i) i n xs count)
    in
    ap (λ flags. flags ++ rest) g ∙ append_assoc done (flag ∷ []) rest ∙ ap (λ flags. done ++ flags) next ∙ e

pub never_true : IsTrue false → ⊥
never_true h = cc
