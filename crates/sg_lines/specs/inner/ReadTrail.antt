-- What snapshots of the results of reading stand for.
use Rattle.std.specs.Prelude.{List, [], ◌∷◌, ◌++◌, take, drop}
use Rattle.sg_outside.specs.Wire.{LineRead}
use Rattle.sg_lines.specs.declared.read_trail.Results.{Results, fold-Results}
use Rattle.sg_lines.specs.declared.read_trail.Results.TheOpen.{Results-F}

-- the newest result, after the others
abbrev pub results_step : Results-F (List LineRead) → List LineRead
results_step Results-F.Nothing = []
results_step (Results-F.Bytes before bytes at count) = before.value ++ LineRead.Bytes (take count.value (drop at.value bytes.value)) ∷ []
results_step (Results-F.Idle before) = before.value ++ LineRead.Idle ∷ []
results_step (Results-F.End before) = before.value ++ LineRead.End ∷ []
results_step (Results-F.Failed before) = before.value ++ LineRead.Failed ∷ []

-- the results, in order
abbrev pub results_in : Results → List LineRead
results_in = fold-Results (List LineRead) results_step
