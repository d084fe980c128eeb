use Rattle.session_mux.proofs.Recording.{records_none, records_on, records_received, records_not_received}
use Rattle.session_mux.proofs.laws.traffic.Goals as goal

pub returns-clause-none : goal.returns-clause-none
returns-clause-none c = records_none

pub returns-clause-on : goal.returns-clause-on
returns-clause-on c = records_on

pub returns-clause-received : goal.returns-clause-received
returns-clause-received c = records_received

pub returns-clause-not_received : goal.returns-clause-not_received
returns-clause-not_received c = records_not_received
