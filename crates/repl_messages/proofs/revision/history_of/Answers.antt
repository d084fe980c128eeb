use Rattle.repl_messages.proofs.Histories.{dash_unread}
use Rattle.repl_messages.proofs.revision.history_of.Goals as goal

pub returns-then-eq : goal.returns-then-eq
returns-then-eq c = rw c.in-Some.is (dash_unread c.revision_lists.ensures c.in-Some.text.now c.if-eq.ensures)
