use Rattle.std.proofs.Common.{sym, subst, ap, Err}
use Rattle.feed_command.specs.Run.{Ends}
use Rattle.command_line.specs.Run.{HasFile}
use Rattle.feed_command.specs.FeedLoads.{LoadsJournal}
use Rattle.command_line.specs.FeedWords.{FeedWords}
use Rattle.feed_command.proofs.Loads.{none_loaded}
use Rattle.feed_command.proofs.command.run.Goals as goal

pub returns-in-Ok-clause-outside : goal.returns-in-Ok-clause-outside
returns-in-Ok-clause-outside g c = λ none. absurd (none _ c.in-Ok.ensures.ok)

pub returns-in-Ok-clause-ends : goal.returns-in-Ok-clause-ends
returns-in-Ok-clause-ends g c = λ f bytes read.
    let P : FeedWords → Type 0 = λ w. HasFile (g.F.Files.recorded c.args.files.now) w.journal bytes → Ends c.run_feed.result w bytes (g.O.Sink.taken c.args.out.now) (g.O.Sink.taken c.run_feed.new.out) in
    subst P (sym (c.in-Ok.ensures.only f read)) (c.run_feed.ensures.ends bytes)

pub returns-in-Err-BadWords-clause-words : goal.returns-in-Err-BadWords-clause-words
returns-in-Err-BadWords-clause-words g c = λ _. c.in-Err-BadWords.ensures.bad (ap Err c.in-Err-BadWords.field-0-is)

pub returns-in-Err-BadWords-clause-ends : goal.returns-in-Err-BadWords-clause-ends
returns-in-Err-BadWords-clause-ends g c = λ f bytes read. absurd (c.in-Err-BadWords.ensures.bad (ap Err c.in-Err-BadWords.field-0-is) f read)

pub returns-in-Err-BadWords-clause-absent : goal.returns-in-Err-BadWords-clause-absent
returns-in-Err-BadWords-clause-absent g c = λ f read. absurd (c.in-Err-BadWords.ensures.bad (ap Err c.in-Err-BadWords.field-0-is) f read)

pub returns-in-Ok-clause-loads : goal.returns-in-Ok-clause-loads
returns-in-Ok-clause-loads g c = λ f read.
    let P : FeedWords → Type 0 = λ w. LoadsJournal (g.F.Files.recorded c.args.files.now) w.journal (g.F.Files.loads c.args.files.now) (g.F.Files.loads c.run_feed.new.files) c.run_feed.result in
    subst P (sym (c.in-Ok.ensures.only f read)) c.run_feed.ensures.loads

pub returns-in-Err-BadWords-clause-loads : goal.returns-in-Err-BadWords-clause-loads
returns-in-Err-BadWords-clause-loads g c = λ f read. absurd (c.in-Err-BadWords.ensures.bad (ap Err c.in-Err-BadWords.field-0-is) f read)

pub returns-in-Err-Memory-clause-loads : goal.returns-in-Err-Memory-clause-loads
returns-in-Err-Memory-clause-loads g c = λ f read. none_loaded (g.F.Files.recorded c.args.files.now) f.journal (g.F.Files.loads c.args.files.now)
