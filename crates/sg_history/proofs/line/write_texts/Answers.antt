use Rattle.std.proofs.Common.{◌≡◌, ℕ, ◌≤◌, List, [], ◌∷◌, length, get_or, map, refl, ap, arith, Bor}
use Rattle.sg_history.proofs.line.write_texts.Goals as goal

-- a list of eleven is its eleven items
eleven : {X : Type 0} (d : X) (xs : List X) → 11 ≤ length xs → length xs ≤ 11
    → xs ≡ get_or xs 0 d ∷ get_or xs 1 d ∷ get_or xs 2 d ∷ get_or xs 3 d ∷ get_or xs 4 d ∷ get_or xs 5 d ∷ get_or xs 6 d
    ∷ get_or xs 7 d ∷ get_or xs 8 d ∷ get_or xs 9 d ∷ get_or xs 10 d ∷ []
eleven d (x0 ∷ x1 ∷ x2 ∷ x3 ∷ x4 ∷ x5 ∷ x6 ∷ x7 ∷ x8 ∷ x9 ∷ x10 ∷ []) low high = refl
eleven d _ low high = absurd (omega arith)

pub returns-clause-some : goal.returns-clause-some
returns-clause-some c =
    ap (map (λ (p : Bor (List ℕ)). p.now))
    (eleven (record { ref_ptr = (0, 0); now = [] }) c.args.fields.now (omega arith) (omega arith))
