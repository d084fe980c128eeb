use Rattle.sync_meaning.proofs.Visits.{more_visits}
use Rattle.sync_meaning.proofs.laws.more_visits.Goals as goal

pub returns : goal.returns
returns c = more_visits
