-- What snapshots of the letters of a name stand for.
use Rattle.std.specs.Prelude.{ℕ, List, [], ◌∷◌, ◌++◌}
use Rattle.sg_outside.specs.declared.seen_name.Letters.{Letters, fold-Letters}
use Rattle.sg_outside.specs.declared.seen_name.Letters.TheOpen.{Letters-F}

-- the last letter, after the others
abbrev pub letters_step : Letters-F (List ℕ) → List ℕ
letters_step Letters-F.Nothing = []
letters_step (Letters-F.Then before letter) = before.value ++ letter.value ∷ []

-- the letters of a name, in order
abbrev pub letters_in : Letters → List ℕ
letters_in = fold-Letters (List ℕ) letters_step
