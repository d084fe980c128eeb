-- the rows that are asked for, in the order of their keys. Only proofs need this.
use Rattle.std.specs.Prelude.{ℕ, List, [], ◌∷◌, Option, Some, None, if◌then◌else◌}
use Rattle.std.specs.declared.cmp.Ordering.{Ordering}
use Rattle.std.specs.declared.cmp.Ordering.TheVariants.{Less, Equal, Greater}
use Rattle.sg_names.specs.declared.key.Key.{Key}
use Rattle.sg_names.specs.Key.{key_cmp}
use Rattle.sg_history.specs.declared.row.Row.{Row}
use Rattle.sg_history.specs.declared.row.Options.{Options}
use Rattle.sg_history.specs.Feed.{keeps}

-- a row before these, in place of the first, or behind it, by the order of its key and the first one's
abbrev pub put_over : Ordering → Row → Row → List Row → List Row → List Row
put_over Less row first others after = row ∷ first ∷ others
put_over Equal row first others after = row ∷ others
put_over Greater row first others after = first ∷ after

-- a row put into rows of rising keys, in place of one of its key
abbrev pub insert_over : Row → List Row → List Row
insert_over row [] = row ∷ []
insert_over row (first ∷ others) = put_over (key_cmp row.key first.key) row first others (insert_over row others)

-- a row put in where there is one and it is asked for
abbrev pub insert_asked : Options → Key → Option Row → List Row → List Row
insert_asked options since None rows = rows
insert_asked options since (Some row) rows = if keeps options since row then insert_over row rows else rows

-- those of these rows that are asked for, in the order of their keys
abbrev pub asked_rows : Options → Key → List (Option Row) → List Row
asked_rows options since [] = []
asked_rows options since (row ∷ others) = insert_asked options since row (asked_rows options since others)

-- a row under its key, as a map has it
abbrev pub under_key : Row → (ℕ × ℕ) × Row
under_key row = ((row.key.by, row.key.seq), row)
