-- texts of lists, item by item
use Rattle.std.proofs.Common.{◌≡◌, ℕ, ◌≤◌, List, [], ◌∷◌, ◌++◌, length, take, ◌-◌, drop, get_or, map, sym, ap, ◌∙◌, arith}
use Rattle.std.specs.List.{flat_map, join_with_byte}
use Rattle.std.proofs.lemmas.List.{take_rest}
use Rattle.std.proofs.lemmas.Grind.{common_steps}
use Rattle.sg_names.specs.ItemList.{list_text}

-- joined texts are the first, and each further one after a comma
pub join-cons : {X : Type 0} (text : X → List ℕ) (x : X) (xs : List X)
    → join_with_byte 44 (text x ∷ map text xs) ≡ text x ++ flat_map (λ y. 44 ∷ text y) xs
join-cons text x [] = grind (arith, common_steps)
join-cons text x (y ∷ ys) = let again = join-cons text y ys in ap (λ rest. text x ++ (44 ∷ rest)) again

pub list_text-cons : {X : Type 0} (text : X → List ℕ) (x : X) (xs : List X)
    → list_text (map text (x ∷ xs)) ≡ text x ++ flat_map (λ y. 44 ∷ text y) xs
list_text-cons text x xs = join-cons text x xs

-- the same of a list that is read by its first place
pub list_text-first : {X : Type 0} (text : X → List ℕ) (x : X) (xs : List X) → 1 ≤ length xs → x ≡ get_or xs 0 x
    → list_text (map text xs) ≡ text x ++ flat_map (λ y. 44 ∷ text y) (take (length xs - 1) (drop 1 xs))
list_text-first text x [] some is = absurd (omega arith)
list_text-first text x (y ∷ ys) some is =
    rw (take_rest (y ∷ ys) 1) (ap (λ z. list_text (map text (z ∷ ys))) (sym is) ∙ list_text-cons text x ys)

-- two appends, one after the other, are one of both texts
pub appended_both : (a b c first further whole : List ℕ) → whole ≡ first ++ further → b ≡ a ++ first → c ≡ b ++ further → c ≡ a ++ whole
appended_both a b c first further whole e f g = grind (arith, common_steps, e, f, g)
