use Rattle.std.proofs.Common.{List, Some, map, ap, ◌∙◌}
use Rattle.serde_json.specs.View.{view, items_of}
use Rattle.serde_json.specs.declared.value.Value.{Value}
use Rattle.repl_messages.specs.declared.rows.Form.TheVariants as form
use Rattle.repl_messages.proofs.RowOffers.{row_found}
use Rattle.repl_messages.proofs.rows.offer_of.Goals as goal

pub returns-in-Change : goal.returns-in-Change
returns-in-Change c =
    rw c.in-Change.is
    (row_found form.Change (view c.args.row.now) (map view c.as_slice.result.now) c.change_of.result
    (ap (λ (xs : List Value). Some (items_of (map view xs))) c.as_slice.ensures.value ∙ (rw c.in-Some.is at c.as_array.ensures))
    c.change_of.ensures)

pub returns-in-Proposal : goal.returns-in-Proposal
returns-in-Proposal c =
    rw c.in-Proposal.is
    (row_found form.Proposal (view c.args.row.now) (map view c.as_slice-in-Proposal.result.now) c.proposal_of.result
    (ap (λ (xs : List Value). Some (items_of (map view xs))) c.as_slice-in-Proposal.ensures.value ∙ (rw c.in-Some.is at c.as_array.ensures))
    c.proposal_of.ensures)
