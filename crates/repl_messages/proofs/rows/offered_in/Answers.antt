use native.Mathlib.Omega.{arith}
use Rattle.std.proofs.Common.{List, Some, map, ap, ◌∙◌}
use Rattle.serde_json.specs.View.{view, items_of}
use Rattle.serde_json.specs.declared.value.Value.{Value}
use Rattle.std.proofs.lemmas.List.{length-map}
use Rattle.repl_messages.proofs.RowOffers.{too_many, offers_found}
use Rattle.repl_messages.proofs.rows.offered_in.Goals as goal

pub returns-then-items-gt-MOST_ROWS : goal.returns-then-items-gt-MOST_ROWS
returns-then-items-gt-MOST_ROWS c =
    too_many c.args.form (view c.args.value.now) (map view c.as_slice-items.result.now)
    (ap (λ (xs : List Value). Some (items_of (map view xs))) c.as_slice-items.ensures.value ∙ (rw c.in-Some.is at c.as_array.ensures))
    (omega (arith, c.if-items-gt-MOST_ROWS.true, length-map c.as_slice-items.result.now view))

pub returns : goal.returns
returns c =
    offers_found c.args.form (view c.args.value.now) (map view c.as_slice-items.result.now) c.offers_of.result
    (ap (λ (xs : List Value). Some (items_of (map view xs))) c.as_slice-items.ensures.value ∙ (rw c.in-Some.is at c.as_array.ensures))
    (omega (arith, c.if-items-gt-MOST_ROWS.false, length-map c.as_slice-items.result.now view))
    c.offers_of.ensures
