use Rattle.std.proofs.Common.{◌∙◌, sym, ap, Option}
use Rattle.sg_history.specs.Current.{Sequenced, current_after}
use Rattle.sg_history.specs.History.{past}
use Rattle.log_views.proofs.Placed.{nothing}
use Rattle.changes_feed.proofs.latest.latest_of.Goals as goal

pub returns-in-None-clause-latest : goal.returns-in-None-clause-latest
returns-in-None-clause-latest c = λ doc stood.
    let es = past c.args.log.now.entries c.args.to in
    let none = ap (λ (o : Option Sequenced). current_after es doc o) (nothing es doc (sym stood ∙ c.in-None.is)) in
    (sym none, c.known.ensures.never es doc none)

pub latest_at-requires-clause-stands : goal.latest_at-requires-clause-stands
latest_at-requires-clause-stands c = (c.requires.stands.0, sym c.in-Some.is ∙ c.requires.stands.1)

pub returns-in-Some-clause-latest : goal.returns-in-Some-clause-latest
returns-in-Some-clause-latest c = λ doc stood.
    let one = c.latest_at.ensures.latest doc (sym c.in-Some.is ∙ stood) in
    (one.0, one.1)
