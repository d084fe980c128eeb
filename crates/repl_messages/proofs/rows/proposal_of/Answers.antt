use Rattle.repl_messages.proofs.RowOffers.{proposal_is}
use Rattle.repl_messages.proofs.rows.proposal_of.Goals as goal

pub returns : goal.returns
returns c =
    proposal_is c.args.items.now c.in-Some.items.now c.in-Some-split_first.others.now c.in-Some.doc.now c.in-Some-split_first.rev.now c.in-Some-2.doc
    c.in-Some-3.rev c.in-Some-4.parent c.in-Some.ensures.cases.0 c.in-Some-split_first.ensures.cases.0 (rw c.in-Some-2.is at c.in_ok-doc.ensures)
    (rw c.in-Some-3.is at c.in_ok-rev.ensures) (rw c.in-Some-4.is at c.in_ok-parent.ensures)
