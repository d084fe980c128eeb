use Rattle.std.proofs.Common.{List, ◌++◌, map, drop}
use Rattle.serde_json.specs.View.{view}
use Rattle.repl_messages.specs.declared.offers.Offer.{Offer}
use Rattle.repl_messages.specs.Offers.{AreRows}
use Rattle.repl_messages.proofs.rows.offers_of.Given as goal

-- the offers so far with those of the rows that are left are those of all rows
abbrev pub invariant-loop-row : goal.invariant-loop-row
invariant-loop-row l =
    (rest : List Offer) → AreRows l.form (map view (drop l.row-index l.rows)) rest → AreRows l.form (map view l.rows) (l.offers.items ++ rest)
