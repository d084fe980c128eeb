use Rattle.std.proofs.Common.{IsTrue, rules}
use Rattle.serde_json.specs.View.{view}
use Rattle.repl_messages.specs.Offers.{is_sequence}
use Rattle.repl_messages.proofs.RowOffers.{change_is}
use Rattle.repl_messages.proofs.rows.change_of.Goals as goal

pub returns : goal.returns
returns c =
    let sequence : IsTrue (is_sequence (view c.in-Some.sequence.now)) = search rules in
    change_is c.args.items.now c.in-Some.items.now c.in-Some-split_first.items.now c.in-Some.sequence.now c.in-Some-split_first.doc.now
    c.in-Some-first.rev.now c.in-Some-2.doc c.in-Some-3.rev c.in-Some.ensures.cases.0 c.in-Some-split_first.ensures.cases.0
    c.in-Some-first.ensures.value sequence (rw c.in-Some-2.is at c.in_ok-doc.ensures) (rw c.in-Some-3.is at c.in_ok-rev.ensures)
