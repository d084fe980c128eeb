-- a text in pieces
use Rattle.std.specs.Prelude.{ℕ, nat_eq, List, [], ◌∷◌, if◌then◌else◌}

-- a byte put before the first piece
abbrev pub begin_with : ℕ → List (List ℕ) → List (List ℕ)
begin_with b [] = (b ∷ []) ∷ []
begin_with b (piece ∷ more) = (b ∷ piece) ∷ more

-- what stands between the places at which this byte stands
abbrev pub pieces : ℕ → List ℕ → List (List ℕ)
pieces at [] = [] ∷ []
pieces at (b ∷ bs) = if nat_eq b at then [] ∷ pieces at bs else begin_with b (pieces at bs)
