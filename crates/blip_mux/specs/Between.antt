-- From an outbox to an inbox.
use Rattle.std.specs.Prelude.{◌≡◌, ℕ, ◌+◌, ◌^◌, ◌<◌, ◌≤◌, Bool, true, false, ◌&&◌, List, [], ◌∷◌, length, Option, Some, None, ◌==◌, if◌then◌else◌}
use Rattle.blip_frame.specs.Frame.{FrameParts, has_checksum}
use Rattle.blip_frame.specs.Payload.{AreProps, payload_text}
use Rattle.blip_frame.specs.declared.frame.Kind.{Kind}
use Rattle.blip_frame.specs.declared.frame.Kind.TheVariants as kinds
use Rattle.blip_mux.specs.declared.message.Message.{Message}
use Rattle.blip_mux.specs.Joining.{Event, came, expected, is_awaited, is_reply, longest_message, most_held, held_in}
use Rattle.blip_mux.specs.Acknowledgements.{Acknowledgement}
use Rattle.blip_mux.specs.Sending.{Waiting, Sending, unsent, picked, after_picked, acked_in}
use Rattle.blip_mux.specs.Cutting.{with_message, with_acknowledgement, times_waiting}

-- A message is put, an acknowledgement is put, an acknowledgement has come, the next frame is sent and comes, or a reply is expected.
pub data Step : Type 0 where
  put : Message → Step
  owe : Acknowledgement → Step
  take_ack : Kind → ℕ → ℕ → Step
  send : Step
  expect : ℕ → Step

-- a message that waits, none of which was sent
abbrev pub waiting_of : Message → Waiting
waiting_of m = unsent m.number m.kind m.urgent m.no_reply (payload_text m.payload.props m.payload.body)

-- what is still to be sent after a step
abbrev pub sending_after : Sending → Step → Sending
sending_after s (put m) = with_message s (waiting_of m)
sending_after s (owe a) = with_acknowledgement s a
sending_after s (take_ack kind number bytes) = record s { waiting = acked_in kind number bytes s.waiting }
sending_after s send = after_picked s
sending_after s (expect number) = s

abbrev pub sending_in : Sending → List Step → Sending
sending_in s [] = s
sending_in s (step ∷ steps) = sending_in (sending_after s step) steps

-- the events of the other side; the last one is the first of the list
abbrev pub sent_to : Option FrameParts → List Event → List Event
sent_to None before = before
sent_to (Some f) before = came f ∷ before

abbrev pub before_next : Sending → List Event → Step → List Event
before_next s before (put m) = before
before_next s before (owe a) = before
before_next s before (take_ack kind number bytes) = before
before_next s before send = sent_to (picked s) before
before_next s before (expect number) = expected number ∷ before

-- the same in their order
abbrev pub events_in : Sending → List Step → List Event
events_in s [] = []
events_in s (put m ∷ steps) = events_in (sending_after s (put m)) steps
events_in s (owe a ∷ steps) = events_in (sending_after s (owe a)) steps
events_in s (take_ack kind number bytes ∷ steps) = events_in (sending_after s (take_ack kind number bytes)) steps
events_in s (send ∷ steps) = sent_to (picked s) (events_in (sending_after s send) steps)
events_in s (expect number ∷ steps) = expected number ∷ events_in s steps

-- the messages that are put
abbrev pub put_in : List Step → List Message
put_in [] = []
put_in (put m ∷ steps) = m ∷ put_in steps
put_in (owe a ∷ steps) = put_in steps
put_in (take_ack kind number bytes ∷ steps) = put_in steps
put_in (send ∷ steps) = put_in steps
put_in (expect number ∷ steps) = put_in steps

-- the messages of this class and this number
abbrev pub messages_of : (Kind → Bool) → ℕ → List Message → List Message
messages_of class number [] = []
messages_of class number (m ∷ messages) = if class m.kind && number == m.number then m ∷ messages_of class number messages else messages_of class number messages

-- what was written of it is read again, and is not too long
abbrev pub CanBeRead : Message → Type 0
CanBeRead m = AreProps m.payload.props × (length (payload_text m.payload.props m.payload.body) ≤ longest_message)

-- a request has the next number and is not urgent; a reply is awaited, and none of its number waits
abbrev pub HasItsTurn : Sending → List Event → Message → Kind → Type 0
HasItsTurn s before m kinds.Msg = (m.number ≡ s.requests + 1) × (m.urgent ≡ false)
HasItsTurn s before m kinds.Rpy = (is_awaited before m.number ≡ true) × (times_waiting is_reply m.number s.waiting ≡ 0)
HasItsTurn s before m kinds.Err = (is_awaited before m.number ≡ true) × (times_waiting is_reply m.number s.waiting ≡ 0)
HasItsTurn s before m kinds.AckMsg = ⊥
HasItsTurn s before m kinds.AckRpy = ⊥

-- what may be done; the messages that are not whole don't hold too much with a frame that is sent
abbrev pub IsAllowed : Sending → List Event → Step → Type 0
IsAllowed s before (put m) = CanBeRead m × HasItsTurn s before m m.kind
IsAllowed s before (owe a) = (has_checksum a.kind ≡ false) × (a.bytes < 2 ^ 64)
IsAllowed s before (take_ack kind number bytes) = Unit {0}
IsAllowed s before send = held_in (sent_to (picked s) before) ≤ most_held
IsAllowed s before (expect number) = Unit {0}

abbrev pub AreAllowed : Sending → List Event → List Step → Type 0
AreAllowed s before [] = Unit {0}
AreAllowed s before (step ∷ steps) = IsAllowed s before step × AreAllowed (sending_after s step) (before_next s before step) steps
