-- the texts of lists of names are UTF-8 where each name is
use Rattle.std.proofs.Common.{◌≡◌, ℕ, List, [], ◌∷◌, ◌++◌, map, arith, refl, ap, subst}
use Rattle.std.specs.Prelude.{IsUtf8, codes}
use Rattle.std.specs.List.{All, join_with_byte}
use Rattle.std.specs.Str.{IsAscii}
use Rattle.std.proofs.lemmas.Str.{IsUtf8-append, IsUtf8-from_ascii}
use Rattle.std.proofs.lemmas.List.Elements.{All-head, All-tail}
use Rattle.std.proofs.lemmas.Str.Ascii.{IsAscii-nil, IsAscii-cons}
use Rattle.sg_names.specs.ItemList.{list_text}

comma : IsUtf8 (44 ∷ [])
comma = IsUtf8-from_ascii (44 ∷ []) (IsAscii-cons 44 [] (omega arith) IsAscii-nil)

dash : IsUtf8 (45 ∷ [])
dash = IsUtf8-from_ascii (45 ∷ []) (IsAscii-cons 45 [] (omega arith) IsAscii-nil)

-- two texts with `=` between them
pub with_equals : (a b : List ℕ) → IsUtf8 a → IsUtf8 b → IsUtf8 (a ++ 61 ∷ b)
with_equals a b first second =
    let equals : IsUtf8 (61 ∷ []) = IsUtf8-from_ascii (61 ∷ []) (IsAscii-cons 61 [] (omega arith) IsAscii-nil) in
    IsUtf8-append a (61 ∷ b) first (IsUtf8-append (61 ∷ []) b equals second)

-- a name behind `role:`
role_ascii : IsAscii (114 ∷ 111 ∷ 108 ∷ 101 ∷ 58 ∷ [])
role_ascii =
    IsAscii-cons 114 (111 ∷ 108 ∷ 101 ∷ 58 ∷ []) (omega arith) (IsAscii-cons 111 (108 ∷ 101 ∷ 58 ∷ []) (omega arith) (IsAscii-cons 108 (101 ∷ 58 ∷ []) (omega arith) (IsAscii-cons 101 (58 ∷ []) (omega arith) (IsAscii-cons 58 [] (omega arith) IsAscii-nil))))

pub role_utf8 : (name : List ℕ) → IsUtf8 name → IsUtf8 (codes "role:" ++ name)
role_utf8 name h = IsUtf8-append (codes "role:") name (IsUtf8-from_ascii (codes "role:") role_ascii) h

joined : {X : Type 0} (text : X → List ℕ) (x : X) (xs : List X) → IsUtf8 (text x) → All (λ y. IsUtf8 (text y)) xs → IsUtf8 (join_with_byte 44 (text x ∷ map text xs))
joined text x [] first more = first
joined {X} text x (y ∷ ys) first more =
    let P : X → Type 0 = λ z. IsUtf8 (text z) in
    let rest : IsUtf8 (join_with_byte 44 (text y ∷ map text ys)) = joined text y ys (All-head P y ys more) (All-tail P y ys more) in
    IsUtf8-append (text x) (44 ∷ join_with_byte 44 (text y ∷ map text ys)) first (IsUtf8-append (44 ∷ []) (join_with_byte 44 (text y ∷ map text ys)) comma rest)

pub list_utf8 : {X : Type 0} (text : X → List ℕ) (xs : List X) → All (λ y. IsUtf8 (text y)) xs → IsUtf8 (list_text (map text xs))
list_utf8 text [] all = dash
list_utf8 {X} text (x ∷ xs) all =
    let P : X → Type 0 = λ z. IsUtf8 (text z) in
    joined text x xs (All-head P x xs all) (All-tail P x xs all)

-- channels' names are their own texts
pub names_utf8 : (names : List (List ℕ)) → All (λ name. IsUtf8 name) names → IsUtf8 (list_text names)
names_utf8 names all = subst (λ (texts : List (List ℕ)). IsUtf8 (list_text texts)) (themselves names) (list_utf8 (λ name. name) names all)
  where
    themselves : (xs : List (List ℕ)) → map (λ name. name) xs ≡ xs
    themselves [] = refl
    themselves (x ∷ xs) = ap (λ (more : List (List ℕ)). x ∷ more) (themselves xs)
