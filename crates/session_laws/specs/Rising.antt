-- The fronts of a feed's looks.
use Rattle.std.specs.Prelude.{◌≤◌, ℕ, List, [], ◌∷◌}

-- fronts that don't fall, between these two, of which the last is the first of the list
abbrev pub AreFronts : ℕ → List ℕ → ℕ → Type 0
AreFronts low [] high = low ≤ high
AreFronts low (front ∷ earlier) high = (front ≤ high) × AreFronts low earlier front

-- the since key is not past the front of the first look, if there was one
abbrev pub IsWithin : ℕ → List ℕ → Type 0
IsWithin by [] = Unit {0}
IsWithin by (front ∷ []) = by ≤ front
IsWithin by (front ∷ before ∷ earlier) = IsWithin by (before ∷ earlier)
