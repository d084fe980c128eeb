-- What links of snapshots stand for.
use Rattle.std.specs.Prelude.{List, [], ◌∷◌, ◌++◌}
use Rattle.sg_lines.specs.declared.trail.Links.{Links, fold-Links}
use Rattle.sg_lines.specs.declared.trail.Links.TheOpen.{Links-F}

module _ {T : Type 0} where
  -- the newest value, after the others
  abbrev pub values_step : Links-F T (List T) → List T
  values_step Links-F.Nothing = []
  values_step (Links-F.Then before value) = before.value ++ value.value ∷ []

  -- the values, in order
  abbrev pub values_in : Links T → List T
  values_in = fold-Links T (List T) values_step
