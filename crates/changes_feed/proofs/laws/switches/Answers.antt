use Rattle.changes_feed.proofs.OneOrder.{one_switches}
use Rattle.changes_feed.proofs.laws.switches.Goals as goal

pub returns : goal.returns
returns c = λ one other entries user start front first second. one_switches one other entries user start front first second
