use Rattle.repl_messages.proofs.RowOffers.{rows_none, rows_more, all_rows}
use Rattle.repl_messages.proofs.rows.offers_of.Goals as goal

pub returns-in-None : goal.returns-in-None
returns-in-None c = rows_none c.args.form c.args.rows.now c.loop-row.row-index c.row-item.result c.loop-row-test.true c.row-item.is (rw c.in-None.is at c.in_ok-offer.ensures)

pub returns : goal.returns
returns c = all_rows c.args.form c.args.rows.now c.loop-row.row-index c.loop-row.offers.items c.from_vec.result c.loop-row-test.false c.from_vec.ensures c.loop-row.invariant

pub loop-row-preserved : goal.loop-row-preserved
loop-row-preserved c =
    rows_more c.args.form c.args.rows.now c.loop-row.row-index c.row-item.result c.in-Some.offer c.loop-row.offers.items c.push.new.self.items
    c.loop-row-test.true c.row-item.is (rw c.in-Some.is at c.in_ok-offer.ensures) c.in_ok-push-in-Some.ensures.items c.loop-row.invariant
