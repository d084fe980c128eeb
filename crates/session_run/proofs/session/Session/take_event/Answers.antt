use Rattle.session_run.proofs.Taking.{halts_after, makes_after, ready_after}
use Rattle.session_run.proofs.session.Session.take_event.Goals as goal

pub returns-in-Err-clause-halted : goal.returns-in-Err-clause-halted
returns-in-Err-clause-halted c =
    (halts_after c.args.self.now (record { core = c.step.new.self; mux = c.put.new.mux; listing = c.args.self.now.listing; frames = c.args.self.now.frames }) c.args.event c.in_ok-puts.field-0
    c.requires.awaited c.in_ok-puts.ensures.ok)

pub returns-in-Ok-clause-ok : goal.returns-in-Ok-clause-ok
returns-in-Ok-clause-ok c =
    makes_after c.conduct.ensures.puts c.conduct.ensures.kept c.args.self.now (record { core = c.step.new.self; mux = c.put.new.mux; listing = c.args.self.now.listing; frames = c.args.self.now.frames })
    c.args.event c.in_ok-puts.field-0 c.requires.awaited c.in_ok-puts.ensures.ok c.requires.ready c.in-Ok.ensures.ok

pub returns-in-Ok-clause-ready : goal.returns-in-Ok-clause-ready
returns-in-Ok-clause-ready c =
    ready_after c.conduct.ensures.puts c.conduct.ensures.kept c.replies.ensures.put c.args.self.now (record { core = c.step.new.self; mux = c.put.new.mux; listing = c.args.self.now.listing; frames = c.args.self.now.frames })
    c.args.event c.in_ok-puts.field-0 c.requires.awaited c.in_ok-puts.ensures.ok c.requires.ready c.requires.may c.in-Ok.ensures.ok
