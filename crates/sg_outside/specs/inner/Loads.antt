-- What snapshots of loads stand for.
use Rattle.std.specs.Prelude.{List, [], ◌∷◌, ◌++◌}
use Rattle.sg_outside.specs.Files.{Load}
use Rattle.sg_outside.specs.declared.load_trail.Links.{Links, fold-Links}
use Rattle.sg_outside.specs.declared.load_trail.Links.TheOpen.{Links-F}

-- the newest load, after the others
abbrev pub loads_step : Links-F (List Load) → List Load
loads_step Links-F.Nothing = []
loads_step (Links-F.Then before name answer) = before.value ++ record { name = name.value; answer = answer.value } ∷ []

-- the loads, in order
abbrev pub loads_in : Links → List Load
loads_in = fold-Links (List Load) loads_step
