use Rattle.std.proofs.Common.{refl}
use Rattle.session_run.proofs.Holding.{holds_new}
use Rattle.session_run.proofs.session.Session.new.Goals as goal

pub returns-clause-holds : goal.returns-clause-holds
returns-clause-holds c setup now core =
    holds_new setup now (record { core = c.new.result; mux = c.new-2.result; listing = c.new-3.result; frames = 0 })
    c.inbox_states.ensures.new c.replies.ensures.new core c.new-2.ensures.inbox c.new-2.ensures.outbox c.new-2.ensures.received c.new-2.ensures.sent c.new-3.ensures.looks c.new-3.ensures.stored c.new-3.ensures.spent refl
