use Rattle.std.proofs.Common.{Err, subst}
use Rattle.repl_messages.specs.Requests.{IsAnswer}
use Rattle.session_core.specs.State.{Machine}
use Rattle.session_core.proofs.Refusing.{refused_by}
use Rattle.session_core.proofs.machine.Core.take_request.Goals as goal

pub returns-in_ok-error_of_fault-in-Err-clause-ok : goal.returns-in_ok-error_of_fault-in-Err-clause-ok
returns-in_ok-error_of_fault-in-Err-clause-ok c =
    refused_by c.args.self.now c.args.message.now c.refuse.new.self c.in-Err.fault c.in_ok-error_of_fault-in-Err.field-0 c.refuse.result
    (subst (λ (m : Machine). IsAnswer c.args.message.now.payload m.version (Err c.in-Err.fault)) c.self.view_is (c.in-Err.ensures.refused c.in_ok-error_of_fault-in-Err.ensures.known)) c.in_ok-error_of_fault-in-Err.ensures.ok c.refuse.ensures.ok
