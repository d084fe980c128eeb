use Rattle.session_server.proofs.Calling.{refused}
use Rattle.session_server.proofs.caller.answer.Goals as goal

pub returns-in-Err : goal.returns-in-Err
returns-in-Err g c = λ results is read. refused c.args.config.now (g.L.Link.recorded c.args.link.now) (g.L.Link.recorded c.greet.new.link) c.args.head.now c.in-Err.field-0 results c.in-Err.ensures.recorded is read
