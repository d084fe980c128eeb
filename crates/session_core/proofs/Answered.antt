-- The messages for rows where no answer is left.
use Rattle.std.proofs.Common.{◌≡◌, List, [], ◌∷◌, refl}
use Rattle.sg_history.specs.declared.row.Row.{Row}
use Rattle.session_core.specs.Acts.{body_acts}

pub no_answers : (rows : List Row) → body_acts rows [] ≡ []
no_answers [] = refl
no_answers (row ∷ rows) = refl
