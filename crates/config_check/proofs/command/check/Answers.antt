use Rattle.config_check.proofs.Runs.{not_found, printed}
use Rattle.config_check.proofs.command.check.Goals as goal

pub returns-in-Ok-clause-ends : goal.returns-in-Ok-clause-ends
returns-in-Ok-clause-ends g c = λ bytes file.
    printed c.print_verdict.result c.in-Ok.verdict bytes (g.O.Sink.faults c.args.out.now) (g.O.Sink.faults c.print_verdict.new.out)
    (g.O.Sink.taken c.args.out.now) (g.O.Sink.taken c.print_verdict.new.out) (c.in-Ok.ensures.recorded bytes file) c.print_verdict.ensures

pub returns-in-Err-clause-ends : goal.returns-in-Err-clause-ends
returns-in-Err-clause-ends g c = λ bytes file. not_found c.in-Err.status bytes (g.O.Sink.taken c.args.out.now) (c.in-Err.ensures.recorded bytes file)
