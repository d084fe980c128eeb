use Rattle.std.proofs.Common.{arith}
use Rattle.grant_history.specs.Periods.{periods_have}
use Rattle.feed_rows.proofs.Places.{dated}
use Rattle.feed_rows.proofs.scan.viewer_of.Goals as goal

pub returns-clause-viewer : goal.returns-clause-viewer
returns-clause-viewer c = λ entries front last high behind is order.
    let periods = c.args.periods.now in
    record {
      to_search = record { in_order = order; have_places = is.have_places; apart = is.apart };
      dated = dated (periods_have periods) c.args.user.now entries front high (λ x k le. is.says x k (omega (arith, le, behind))) front (omega arith);
    }
