use Rattle.session_laws.proofs.Replying.{all_replied}
use Rattle.session_laws.proofs.exchanges.replies.Goals as goal

pub returns : goal.returns
returns c = all_replied
