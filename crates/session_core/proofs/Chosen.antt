-- how many rows are chosen
use Rattle.std.proofs.Common.{◌≡◌, ◌≤◌, Bool, true, false, List, [], ◌∷◌, ◌++◌, length, arith, ap, le_refl}
use Rattle.std.proofs.lemmas.List.{length-append}
use Rattle.sg_history.specs.declared.row.Row.{Row}
use Rattle.session_core.specs.Acts.{flagged_rows}

-- no more than there are
pub chosen_bound : (rows : List Row) (flags : List Bool) → length (flagged_rows rows flags) ≤ length rows
chosen_bound [] flags = le_refl 0
chosen_bound (row ∷ rows) [] = omega arith
chosen_bound (row ∷ rows) (true ∷ flags) = omega (arith, chosen_bound rows flags)
chosen_bound (row ∷ rows) (false ∷ flags) = omega (arith, chosen_bound rows flags)

-- a beginning of what is chosen is no longer
pub chosen_part : (some rest rows : List Row) (flags : List Bool) → some ++ rest ≡ flagged_rows rows flags → length some ≤ length rows
chosen_part some rest rows flags h = omega (arith, chosen_bound rows flags, ap length h, length-append some rest)
