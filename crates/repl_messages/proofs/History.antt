-- The texts of revisions with a comma between each two.
use Rattle.std.proofs.Common.{◌≡◌, ℕ, List, [], ◌∷◌, ◌++◌, map, ap, arith}
use Rattle.std.specs.List.{flat_map, join_with_byte}
use Rattle.std.proofs.lemmas.Grind.{common_steps}

-- joined texts are the first, and each further one after a comma
pub joined-first : {X : Type 0} (text : X → List ℕ) (x : X) (xs : List X) → text x ++ flat_map (λ y. 44 ∷ text y) xs ≡ join_with_byte 44 (map text (x ∷ xs))
joined-first text x [] = grind (arith, common_steps)
joined-first text x (y ∷ ys) = let again = joined-first text y ys in ap (λ rest. text x ++ (44 ∷ rest)) again
