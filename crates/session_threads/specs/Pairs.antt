-- Lists, place by place.
use Rattle.std.specs.Prelude.{List, [], ◌∷◌}

module _ {X Y : Type 0} where
  -- each of the one list goes with the one at its place of the other
  abbrev pub AllPairs : (X → Y → Type 0) → List X → List Y → Type 0
  AllPairs Goes [] [] = Unit {0}
  AllPairs Goes (x ∷ xs) (y ∷ ys) = Goes x y × AllPairs Goes xs ys
  AllPairs Goes [] (y ∷ ys) = ⊥
  AllPairs Goes (x ∷ xs) [] = ⊥

-- each of the list is so
abbrev pub AllOf : {X : Type 0} → (X → Type 0) → List X → Type 0
AllOf Holds [] = Unit {0}
AllOf Holds (x ∷ xs) = Holds x × AllOf Holds xs
