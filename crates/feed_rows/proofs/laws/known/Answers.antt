use Rattle.std.proofs.Common.{sym}
use Rattle.feed_rows.specs.Known.{since_renewed}
use Rattle.feed_rows.proofs.FromPlaces.{early}
use Rattle.feed_rows.proofs.LastChanges.{never_renewed}
use Rattle.feed_rows.proofs.Passes.{known_same}
use Rattle.feed_rows.proofs.Steps.{current_same}
use Rattle.feed_rows.proofs.laws.known.Goals as goal

pub returns-clause-current : goal.returns-clause-current
returns-clause-current c = λ e es doc not. current_same c.currents.ensures.unwritten e es doc not

pub returns-clause-same : goal.returns-clause-same
returns-clause-same c = λ from e es user filter doc not. sym (known_same c.currents.ensures.unwritten from e es user filter doc not)

pub returns-clause-none : goal.returns-clause-none
returns-clause-none c = λ from es user filter doc low. early from (since_renewed es doc) user filter doc low

pub returns-clause-never : goal.returns-clause-never
returns-clause-never c = λ es doc none. never_renewed c.currents.ensures.unwritten es doc none
