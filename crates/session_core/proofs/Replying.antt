-- what holds of no act, and of each reply that names no request, holds of each answer to who asked
use Rattle.std.proofs.Common.{◌≡◌, true, false, List, [], codes, Option, Some, None, refl}
use Rattle.blip_frame.specs.declared.frame.Kind.{Kind}
use Rattle.blip_frame.specs.declared.frame.Kind.TheVariants as kinds
use Rattle.blip_frame.specs.declared.payload.Payload.{Payload}
use Rattle.blip_frame.specs.Props.{value_at}
use Rattle.blip_mux.specs.Joining.{is_request, is_reply}
use Rattle.repl_messages.specs.declared.error.ErrorKind.{ErrorKind}
use Rattle.checkpoint_store.specs.declared.answers.Kept0.TheVariants as kept0
use Rattle.checkpoint_store.specs.declared.answers.SetAnswer.TheVariants as set
use Rattle.doc_board.specs.Errors.{outcome_error}
use Rattle.session_core.specs.declared.act.Act.{Act}
use Rattle.session_core.specs.declared.event.Event.{Event}
use Rattle.session_core.specs.declared.event.Event.TheVariants as event
use Rattle.session_core.specs.declared.replies.Asker.{Asker}
use Rattle.session_core.specs.declared.replies.Awaited.{Awaited}
use Rattle.session_core.specs.Acts.{reply_act, refusal_by, answer_act}

module _ (Holds : List Act → Type 0) (none : Holds []) (reply : (asker : Asker) (kind : Kind) (payload : Payload) → is_request kind ≡ false → is_reply kind ≡ true
    → value_at payload.props (codes "Profile") ≡ None → Holds (reply_act asker kind payload)) where
  outcome_by : (asker : Asker) (error : Option ErrorKind) → Holds (refusal_by asker error)
  outcome_by asker None = reply asker kinds.Rpy _ refl refl refl
  outcome_by asker (Some error) = reply asker kinds.Err _ refl refl refl

  pub answer_by : (asker : Asker) (to : Awaited) (e : Event) → Holds (answer_act asker to e)
  answer_by asker to (event.Whole message) = none
  answer_by asker to (event.Idle front) = none
  answer_by asker to (event.Fed answer) = none
  answer_by asker to (event.Bodies b) = none
  answer_by asker to (event.Asked answer) = reply asker kinds.Rpy _ refl refl refl
  answer_by asker to (event.Judged o) = outcome_by asker (outcome_error o)
  answer_by asker to (event.Got (kept0.Found rev body)) = reply asker kinds.Rpy _ refl refl refl
  answer_by asker to (event.Got kept0.Absent404) = reply asker kinds.Err _ refl refl refl
  answer_by asker to (event.Set (set.Set rev)) = reply asker kinds.Rpy _ refl refl refl
  answer_by asker to (event.Set (set.Conflict409 current)) = reply asker kinds.Err _ refl refl refl
  answer_by asker to (event.Set (set.TooLarge413 bytes)) = reply asker kinds.Err _ refl refl refl
  answer_by asker to (event.Set set.Full503) = reply asker kinds.Err _ refl refl refl
  answer_by asker to (event.Set set.Memory) = none
