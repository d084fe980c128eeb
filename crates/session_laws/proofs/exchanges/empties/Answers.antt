use Rattle.session_laws.proofs.CaughtUp.{caught_up_once, waiting_caught_up}
use Rattle.session_laws.proofs.exchanges.empties.Goals as goal

pub returns-clause-once : goal.returns-clause-once
returns-clause-once c = caught_up_once

pub returns-clause-waiting : goal.returns-clause-waiting
returns-clause-waiting c = waiting_caught_up
