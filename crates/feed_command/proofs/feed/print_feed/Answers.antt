use Rattle.std.proofs.Common.{refl}
use Rattle.sg_history.specs.History.{history}
use Rattle.command_line.specs.FeedRequest.{feed_of}
use Rattle.feed_command.proofs.Endings.{printed}
use Rattle.feed_command.proofs.feed.print_feed.Goals as goal

pub returns-in-Ok : goal.returns-in-Ok
returns-in-Ok g c =
    printed c.print_log-status.result (history c.in-Ok.log) c.args.journal (feed_of c.args.request.now) _ _ _ _ c.in-Ok.ensures.ok c.print_log-status.ensures

pub returns-in-Err-Bad : goal.returns-in-Err-Bad
returns-in-Err-Bad g c =
    let line = rw c.in-Err-Bad.field-0-is at c.in-Err-Bad.ensures.line in
    let bad = rw c.in-Err-Bad.field-0-is at c.in-Err-Bad.ensures.bad in
    rw c.in-Err-Bad.field-0-is (refl, line, bad, refl)
