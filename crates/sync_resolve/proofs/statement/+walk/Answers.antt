use Rattle.std.proofs.Common.{sym, ◌∙◌}
use Rattle.sync_resolve.proofs.Closing.{left_more, more_none}
use Rattle.sync_resolve.proofs.statement.+walk.Goals as goal

pub block-returns-clause-seen : goal.block-returns-clause-seen
block-returns-clause-seen t c =
    c.leave.ensures
    ∙ rw (c.len-count.ensures, c.in_ok-statements.ensures.seen, c.in_ok-enter.ensures.ok) (left_more c.args.scope.now _ ∙ sym (more_none c.args.scope.now))
