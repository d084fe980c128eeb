use Rattle.std.proofs.Common.{List, length, reverse, sym, subst, arith}
use Rattle.sg_history.specs.declared.entries.Entry.{Entry}
use Rattle.sg_history.specs.History.{past}
use Rattle.sg_history.specs.Principals.{has_channel}
use Rattle.grant_history.specs.declared.periods.Period.{Period}
use Rattle.grant_history.specs.Periods.{AreInOrder, ArePeriods}
use Rattle.feed_rows.specs.PassAt.{IsViewer}
use Rattle.feed_rows.proofs.Places.{take_all}
use Rattle.feed_rows.proofs.scan.rows_of.Goals as goal

pub rows_of_pass-rows-requires-clause-viewer : goal.rows_of_pass-rows-requires-clause-viewer
rows_of_pass-rows-requires-clause-viewer c =
    let entries = c.args.entries.now in
    let periods = subst (λ (ps : List Period). ArePeriods ps (λ x k. has_channel (past entries k) c.args.user.now x) (length entries))
    (sym c.as_slice.ensures) c.in_ok-periods.ensures.periods in
    let order = subst (λ (ps : List Period). AreInOrder ps) (sym c.as_slice.ensures) c.in_ok-periods.ensures.in_order in
    subst (λ (es : List Entry). IsViewer c.viewer_of-viewer.result (reverse es)) (take_all entries)
    (c.viewer_of-viewer.ensures.viewer entries (length entries) (length entries) (omega arith) (omega arith) periods order)
