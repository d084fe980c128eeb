-- A message that is no known request is refused.
use Rattle.std.proofs.Common.{◌≡◌, Result, Ok, Err, refl, subst}
use Rattle.std.specs.Prelude.{IfOk}
use Rattle.blip_mux.specs.declared.message.Message.{Message}
use Rattle.repl_messages.specs.declared.error.ErrorKind.{ErrorKind}
use Rattle.repl_messages.specs.declared.request.Request.{Request}
use Rattle.repl_messages.specs.declared.request.RequestFault.{RequestFault}
use Rattle.repl_messages.specs.Requests.{IsAnswer}
use Rattle.session_core.specs.declared.act.Acts.{Acts}
use Rattle.session_core.specs.Acts.{error_of}
use Rattle.session_core.specs.State.{Machine}
use Rattle.session_core.specs.Transitions.{Done, IsDone, IsDoneBy, asker_of, on_request, refused}

pub refused_by : {E : Type 0} (m : Machine) (message : Message) (after : Machine) (fault : RequestFault) (error : ErrorKind) (r : Result Acts E)
    → IsAnswer message.payload m.version (Err fault) → error ≡ error_of fault
    → IfOk r (λ acts. IsDone (refused m (asker_of message) error) after acts)
    → IfOk r (λ acts. IsDoneBy (λ (done : Done). (read : Result Request RequestFault) × IsAnswer message.payload m.version read × (done ≡ on_request m message read)) after acts)
refused_by m message after fault error (Ok acts) is e done =
    (refused m (asker_of message) (error_of fault), (Err fault, is, refl), subst (λ x. IsDone (refused m (asker_of message) x) after acts) e done)
refused_by m message after fault error (Err x) is e done = tt
