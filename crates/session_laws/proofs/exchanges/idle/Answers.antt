use Rattle.session_laws.proofs.CaughtUp.{idle_looks, idle_from, idle_puts}
use Rattle.session_laws.proofs.exchanges.idle.Goals as goal

pub returns-clause-looks : goal.returns-clause-looks
returns-clause-looks c = idle_looks

pub returns-clause-from : goal.returns-clause-from
returns-clause-from c = idle_from

pub returns-clause-puts : goal.returns-clause-puts
returns-clause-puts c = idle_puts
