-- How messages are cut into frames.
use Rattle.std.specs.Prelude.{◌≡◌, ℕ, ◌+◌, ◌≤◌, zero, suc, Bool, true, not, ◌&&◌, List, [], ◌∷◌, ◌++◌, length, max, Some, None, ◌==◌, if◌then◌else◌}
use Rattle.std.specs.Option.{option_to_list}
use Rattle.blip_frame.specs.Frame.{FrameParts, has_checksum, largest_written}
use Rattle.blip_frame.specs.declared.frame.Kind.{Kind}
use Rattle.blip_mux.specs.Joining.{is_request}
use Rattle.blip_mux.specs.Acknowledgements.{Acknowledgement}
use Rattle.blip_mux.specs.Sending.{Waiting, Sending, picked, after_picked, acked_in}

-- what is done to an outbox: a message or an acknowledgement is put, or an acknowledgement has come, which counts so many bytes of the message of a kind and a number
pub data OutboxStep : Type 0 where
  puts : Waiting → OutboxStep
  owes : Acknowledgement → OutboxStep
  takes_ack : Kind → ℕ → ℕ → OutboxStep

-- with a message put last
abbrev pub with_message : Sending → Waiting → Sending
with_message s w = record s {
  requests = (if is_request w.kind then w.number else s.requests);
  replies = (if is_request w.kind then s.replies else max w.number s.replies);
  waiting = s.waiting ++ w ∷ [];
}

-- with an acknowledgement put last
abbrev pub with_acknowledgement : Sending → Acknowledgement → Sending
with_acknowledgement s a = record s { acknowledgements = s.acknowledgements ++ a ∷ [] }

-- once it was done
abbrev pub after_outbox_step : Sending → OutboxStep → Sending
after_outbox_step s (puts w) = with_message s w
after_outbox_step s (owes a) = with_acknowledgement s a
after_outbox_step s (takes_ack kind number bytes) = record s { waiting = acked_in kind number bytes s.waiting }

abbrev pub after_outbox_steps : Sending → List OutboxStep → Sending
after_outbox_steps s [] = s
after_outbox_steps s (step ∷ steps) = after_outbox_steps (after_outbox_step s step) steps

-- these frames are picked one after another, and this is left
abbrev pub ArePicked : Sending → List FrameParts → Sending → Type 0
ArePicked s [] left = left ≡ s
ArePicked s (f ∷ frames) left = (picked s ≡ Some f) × ArePicked (after_picked s) frames left

-- they are picked until there is none
abbrev pub AreAllPicked : Sending → List FrameParts → Sending → Type 0
AreAllPicked s frames left = ArePicked s frames left × (picked left ≡ None)

-- The frames that are sent, where frames are picked until there is none once all steps of a turn are made, turn by turn.
abbrev pub AreCut : Sending → List (List OutboxStep) → List FrameParts → Type 0
AreCut s [] frames = frames ≡ []
AreCut s (steps ∷ turns) frames =
    (first : List FrameParts) × (rest : List FrameParts) × (left : Sending) × (frames ≡ first ++ rest) × AreAllPicked (after_outbox_steps s steps) first left × AreCut left turns rest

-- the frames of so many calls for the next frame
abbrev pub frames_after : ℕ → Sending → List FrameParts
frames_after zero s = []
frames_after (suc k) s = option_to_list (picked s) ++ frames_after k (after_picked s)

-- no frame is longer than the longest, and one with more to come is as long
abbrev pub AreFull : List FrameParts → Type 0
AreFull [] = Unit {0}
AreFull (f ∷ frames) = (length f.payload ≤ largest_written) × (f.more ≡ true → length f.payload ≡ largest_written) × AreFull frames

-- ---- one message among others

-- acknowledgements have their kinds
abbrev pub are_acknowledgements : List Acknowledgement → Bool
are_acknowledgements [] = true
are_acknowledgements (a ∷ acknowledgements) = not (has_checksum a.kind) && are_acknowledgements acknowledgements

-- the bytes of the frames of this class and this number, in order
abbrev pub bytes_sent : (Kind → Bool) → ℕ → List FrameParts → List ℕ
bytes_sent class number [] = []
bytes_sent class number (f ∷ frames) = (if class f.kind && number == f.number then f.payload else []) ++ bytes_sent class number frames

-- the bytes that are still to be sent of this class and this number
abbrev pub bytes_left : (Kind → Bool) → ℕ → List Waiting → List ℕ
bytes_left class number [] = []
bytes_left class number (w ∷ ws) = (if class w.kind && number == w.number then w.rest else []) ++ bytes_left class number ws

-- how many messages of this class and this number wait
abbrev pub times_waiting : (Kind → Bool) → ℕ → List Waiting → ℕ
times_waiting class number [] = 0
times_waiting class number (w ∷ ws) = (if class w.kind && number == w.number then 1 else 0) + times_waiting class number ws
