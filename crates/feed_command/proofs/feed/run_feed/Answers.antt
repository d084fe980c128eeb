use Rattle.command_line.specs.FeedRequest.{feed_of}
use Rattle.feed_command.proofs.Endings.{with_bytes, not_loaded}
use Rattle.feed_command.proofs.Loads.{journal_came, not_come}
use Rattle.feed_command.proofs.feed.run_feed.Goals as goal

pub returns-in-Ok-clause-ends : goal.returns-in-Ok-clause-ends
returns-in-Ok-clause-ends g c = λ bytes file.
    let loaded = c.in-Ok.ensures.recorded bytes file in
    with_bytes c.print_feed.result (feed_of c.args.request.now) bytes c.in-Ok.journal _ _ _ _ (loaded.0, loaded.1) c.print_feed.ensures

pub returns-in-Ok-clause-absent : goal.returns-in-Ok-clause-absent
returns-in-Ok-clause-absent g c = λ absent. absurd (c.in-Ok.ensures.absent absent)

pub returns-in-Err-clause-ends : goal.returns-in-Err-clause-ends
returns-in-Err-clause-ends g c = λ bytes file.
    not_loaded c.in-Err.status (feed_of c.args.request.now) bytes _ _ (c.in-Err.ensures.recorded bytes file)

pub returns-in-Ok-clause-loads : goal.returns-in-Ok-clause-loads
returns-in-Ok-clause-loads g c =
    journal_came c.print_feed.result _ c.args.request.now.journal.now c.in-Ok.journal (feed_of c.args.request.now) _ _ _ _ _ _ c.in-Ok.ensures.loads
    (λ bytes file. (c.in-Ok.ensures.recorded bytes file).1) c.print_feed.ensures

pub returns-in-Err-clause-loads : goal.returns-in-Err-clause-loads
returns-in-Err-clause-loads g c = not_come c.in-Err.status _ _ _ _ c.in-Err.ensures.loads
