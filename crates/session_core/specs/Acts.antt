-- What a session puts.
use Rattle.std.specs.Prelude.{ℕ, ◌+◌, Bool, true, false, List, [], ◌∷◌, ◌++◌, take, codes, Option, Some, None, if◌then◌else◌}
use Rattle.blip_frame.specs.declared.frame.Kind.{Kind}
use Rattle.blip_frame.specs.declared.frame.Kind.TheVariants as kinds
use Rattle.blip_frame.specs.declared.payload.Payload.{Payload}
use Rattle.blip_mux.specs.declared.message.Message.{Message}
use Rattle.sg_history.specs.declared.row.Row.{Row}
use Rattle.repl_messages.specs.declared.request.Version.{Version}
use Rattle.repl_messages.specs.declared.request.RequestFault.{RequestFault}
use Rattle.repl_messages.specs.declared.request.RequestFault.TheVariants as faults
use Rattle.repl_messages.specs.declared.error.ErrorKind.{ErrorKind}
use Rattle.repl_messages.specs.declared.error.ErrorKind.TheVariants as errors
use Rattle.repl_messages.specs.declared.looks.Body.{Body}
use Rattle.repl_messages.specs.declared.looks.Body.TheVariants as bodies
use Rattle.repl_messages.specs.Answers.{answers_payload}
use Rattle.repl_messages.specs.Changes.{changes_payload}
use Rattle.repl_messages.specs.Checkpoints.{checkpoint_payload}
use Rattle.repl_messages.specs.Rev.{rev_payload, norev_payload}
use Rattle.repl_messages.specs.Errors.{ok_payload, error_payload}
use Rattle.checkpoint_store.specs.declared.answers.Kept0.{Kept0}
use Rattle.checkpoint_store.specs.declared.answers.Kept0.TheVariants as kept0
use Rattle.checkpoint_store.specs.declared.answers.SetAnswer.{SetAnswer}
use Rattle.checkpoint_store.specs.declared.answers.SetAnswer.TheVariants as set
use Rattle.doc_board.specs.declared.outcome.Outcome.{Outcome}
use Rattle.doc_board.specs.Errors.{outcome_error}
use Rattle.session_core.specs.declared.act.Act.{Act}
use Rattle.session_core.specs.declared.act.Act.TheVariants as act
use Rattle.session_core.specs.declared.act.Want.{Want}
use Rattle.session_core.specs.declared.event.Event.{Event}
use Rattle.session_core.specs.declared.event.Event.TheVariants as event
use Rattle.session_core.specs.declared.replies.Asker.{Asker}
use Rattle.session_core.specs.declared.replies.Awaited.{Awaited}
use Rattle.session_core.specs.declared.replies.Awaited.TheVariants as awaited

-- all that is to be done in one list, of which a want is the last
abbrev pub listed_acts : List Act → Option Want → List Act
listed_acts puts None = puts
listed_acts puts (Some want) = puts ++ act.Want want ∷ []

-- ---- messages

-- a request of the gateway, of this number
abbrev pub act_request : ℕ → Bool → Payload → Message
act_request number no_reply payload =
    record { number = number; kind = kinds.Msg; urgent = false; no_reply = no_reply; payload = payload }

-- the reply to a request of this number, urgent where that was
abbrev pub act_reply : ℕ → Kind → Bool → Payload → Message
act_reply number kind urgent payload =
    record { number = number; kind = kind; urgent = urgent; no_reply = false; payload = payload }

-- the messages that acts put, requests numbered from this one on
abbrev pub messages_from : ℕ → List Act → List Message
messages_from number [] = []
messages_from number (act.Reply to kind urgent payload ∷ acts) = act_reply to kind urgent payload ∷ messages_from number acts
messages_from number (act.Request payload no_reply ∷ acts) = act_request number no_reply payload ∷ messages_from (number + 1) acts
messages_from number (act.Want want ∷ acts) = messages_from number acts

-- ---- replies

-- the reply to a request; none where it wants none
abbrev pub reply_act : Asker → Kind → Payload → List Act
reply_act asker kind payload = if asker.no_reply then [] else act.Reply asker.number kind asker.urgent payload ∷ []

-- the reply that a request is refused
abbrev pub refusal_act : Asker → ErrorKind → List Act
refusal_act asker error = reply_act asker kinds.Err (error_payload error)

-- the empty reply
abbrev pub acceptance_act : Asker → List Act
acceptance_act asker = reply_act asker kinds.Rpy ok_payload

-- the error by which a message that is no known request is refused
abbrev pub error_of : RequestFault → ErrorKind
error_of (faults.Bad400 field) = errors.Bad400 field
error_of faults.LowForm400 = errors.LowForm400
error_of faults.Unknown404 = errors.NoHandler404
error_of faults.Memory = errors.NoHandler404

-- the empty reply where there is no error, else the refusal
abbrev pub refusal_by : Asker → Option ErrorKind → List Act
refusal_by asker None = acceptance_act asker
refusal_by asker (Some error) = refusal_act asker error

-- the reply to a revision that was proposed, by its outcome
abbrev pub outcome_act : Asker → Outcome → List Act
outcome_act asker outcome = refusal_by asker (outcome_error outcome)

-- the reply to a request for a checkpoint: its number and its body
abbrev pub checkpoint_act : Asker → Kept0 → List Act
checkpoint_act asker (kept0.Found rev body) = reply_act asker kinds.Rpy (checkpoint_payload rev body)
checkpoint_act asker kept0.Absent404 = refusal_act asker errors.NoCheckpoint404

-- the reply to a request that sets a checkpoint: its new number; none where memory ran out, since that ends the session
abbrev pub set_act : Asker → SetAnswer → List Act
set_act asker (set.Set rev) = reply_act asker kinds.Rpy (checkpoint_payload rev [])
set_act asker (set.Conflict409 current) = refusal_act asker (errors.Checkpoint409 current)
set_act asker (set.TooLarge413 bytes) = refusal_act asker errors.TooLarge413
set_act asker set.Full503 = refusal_act asker errors.CheckpointsFull503
set_act asker set.Memory = []

-- whether revisions were offered by proposeChanges
abbrev pub is_proposed : Awaited → Bool
is_proposed (awaited.Asked proposed) = proposed
is_proposed to = false

-- the reply to a request, by the answer to what was wanted for it
abbrev pub answer_act : Asker → Awaited → Event → List Act
answer_act asker to (event.Asked answer) = reply_act asker kinds.Rpy (answers_payload answer.answers (is_proposed to))
answer_act asker to (event.Judged outcome) = outcome_act asker outcome
answer_act asker to (event.Got kept) = checkpoint_act asker kept
answer_act asker to (event.Set answer) = set_act asker answer
answer_act asker to other = []

-- ---- requests

abbrev pub wants_no_reply : List Row → Bool
wants_no_reply [] = true
wants_no_reply (row ∷ rows) = false

-- the next offer of a feed: as many of these rows as a batch has; where no rows are left it is empty, and wants no reply
abbrev pub offer_act : List Row → ℕ → Version → Act
offer_act rows batch version = act.Request (changes_payload (take batch rows) version) (wants_no_reply rows)

-- what stands for a document that is gone
abbrev pub removed_body : List ℕ
removed_body = codes "{\"_removed\":true}"

-- the message for a row that the device wants
abbrev pub body_act : Row → Body → Act
body_act row (bodies.Rev ancestors bytes) = act.Request (rev_payload row ancestors bytes) false
body_act row bodies.Removed = act.Request (rev_payload row [] removed_body) false
body_act row bodies.NoRev = act.Request (norev_payload row) true

-- the messages for rows that the device wants, by their answers
abbrev pub body_acts : List Row → List Body → List Act
body_acts [] answers = []
body_acts (row ∷ rows) [] = []
body_acts (row ∷ rows) (answer ∷ answers) = body_act row answer ∷ body_acts rows answers

-- ---- the rows that a device wants

-- the row where its flag is set
abbrev pub flagged : Bool → Row → List Row
flagged flag row = if flag then row ∷ [] else []

-- the rows of which the flag is set
abbrev pub flagged_rows : List Row → List Bool → List Row
flagged_rows [] flags = []
flagged_rows (row ∷ rows) [] = []
flagged_rows (row ∷ rows) (flag ∷ flags) = flagged flag row ++ flagged_rows rows flags
