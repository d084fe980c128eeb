use Rattle.session_core.proofs.Feeding.{offers_are_rows}
use Rattle.session_core.proofs.laws.feeds.Goals as goal

pub returns : goal.returns
returns c = offers_are_rows
