-- What an outbox still has to send, and the next frame of it.
use Rattle.std.specs.Prelude.{◌≡◌, ℕ, ◌+◌, ◌-◌, ◌≤◌, Bool, ◌&&◌, ◌||◌, false, List, [], ◌∷◌, ◌++◌, length, take, drop, max, find, Option, Some, None, option_map, nat_lt, nat_le, ◌==◌, if◌then◌else◌}
use Rattle.std.specs.Option.{option_or, option_map_or}
use Rattle.blip_frame.specs.Checksum.{checksum}
use Rattle.blip_frame.specs.Frame.{FrameParts, largest_written, payload_sent_after, spelling, value_after, WritesAfter}
use Rattle.blip_frame.specs.declared.frame.Kind.{Kind}
use Rattle.blip_frame.specs.declared.frame.Kind.TheVariants as kinds
use Rattle.blip_mux.specs.Joining.{is_request, is_reply}
use Rattle.blip_mux.specs.Acknowledgements.{Acknowledgement, ack_frame}
use Rattle.blip_mux.specs.declared.outbox.Next.{Next}
use Rattle.blip_mux.specs.declared.outbox.Next.TheVariants as nexts

-- a message that waits: how many of its bytes were sent, how many of those the other side has acknowledged, and the bytes that are still to be sent
pub record Waiting : Type 0 where
  pub number : ℕ
  pub kind : Kind
  pub urgent : Bool
  pub no_reply : Bool
  pub sent : ℕ
  pub acknowledged : ℕ
  pub rest : List ℕ

-- how many requests were put, the greatest number of a reply that was put, the acknowledgements that wait in the order in which they were put, and the messages that wait
pub record Sending : Type 0 where
  pub requests : ℕ
  pub replies : ℕ
  pub acknowledgements : List Acknowledgement
  pub waiting : List Waiting

-- before anything was put
abbrev pub new_sending : Sending
new_sending = record { requests = 0; replies = 0; acknowledgements = []; waiting = [] }

-- a message of which nothing was sent
abbrev pub unsent : ℕ → Kind → Bool → Bool → List ℕ → Waiting
unsent number kind urgent no_reply bytes = record { number = number; kind = kind; urgent = urgent; no_reply = no_reply; sent = 0; acknowledged = 0; rest = bytes }

-- ---- the next frame of one message

-- one frame of a message, with these bytes of it
abbrev pub piece : Waiting → Bool → List ℕ → FrameParts
piece w more bytes = record { number = w.number; kind = w.kind; urgent = w.urgent; no_reply = w.no_reply; more = more; payload = bytes }

-- whether more bytes wait than one frame carries
abbrev pub has_more : Waiting → Bool
has_more w = nat_lt largest_written (length w.rest)

-- the next frame of a message: as many bytes as one carries, or the rest
abbrev pub first_piece : Waiting → FrameParts
first_piece w = piece w (has_more w) (take largest_written w.rest)

-- the message once its next frame has gone
abbrev pub without_piece : Waiting → Waiting
without_piece w = record w { sent = w.sent + largest_written; rest = drop largest_written w.rest }

-- what goes to the back of the list once the next frame of a message has gone
abbrev pub back : Waiting → List Waiting
back w = if has_more w then without_piece w ∷ [] else []

-- ---- which message is next

-- above so many bytes that were sent and not acknowledged a message pauses
abbrev pub pause_above : ℕ
pause_above = 128000

abbrev pub may_send : Waiting → Bool
may_send w = nat_le (w.sent - w.acknowledged) pause_above

abbrev pub is_paused : Waiting → Bool
is_paused w = nat_lt pause_above (w.sent - w.acknowledged)

-- the most bytes of a message that are sent and not acknowledged, since one that may send sends a frame
abbrev pub IsWithinLimit : Waiting → Type 0
IsWithinLimit w = w.sent ≤ w.acknowledged + (pause_above + largest_written)

-- the first message that passes, and the others in their order
abbrev pub taken_out : (Waiting → Bool) → List Waiting → Option (Waiting × List Waiting)
taken_out passes [] = None
taken_out passes (w ∷ ws) = if passes w then Some (w, ws) else option_map (λ found. (found.0, w ∷ found.1)) (taken_out passes ws)

-- the message that sends next, and the others: the first urgent message that may send, else the first message that may send
abbrev pub chosen : List Waiting → Option (Waiting × List Waiting)
chosen ws = option_or (taken_out (λ w. w.urgent && may_send w) ws) (taken_out may_send ws)

-- the next frame of a message that waits
abbrev pub next_piece : List Waiting → Option FrameParts
next_piece ws = option_map (λ found. first_piece found.0) (chosen ws)

-- what waits once it has gone: the message with more to come goes to the back of the list
abbrev pub after_piece : List Waiting → List Waiting
after_piece ws = option_map_or (λ found. found.1 ++ back found.0) (chosen ws) ws

-- The one next frame that is sent, or none: acknowledgements go first, in their order.
abbrev pub picked_of : List Acknowledgement → List Waiting → Option FrameParts
picked_of [] ws = next_piece ws
picked_of (a ∷ acknowledgements) ws = Some (ack_frame a)

abbrev pub picked : Sending → Option FrameParts
picked s = picked_of s.acknowledgements s.waiting

-- what is still to be sent once it has gone
abbrev pub picked_from : List Acknowledgement → Sending → Sending
picked_from [] s = record s { waiting = after_piece s.waiting }
picked_from (a ∷ acknowledgements) s = record s { acknowledgements = acknowledgements }

abbrev pub after_picked : Sending → Sending
after_picked s = picked_from s.acknowledgements s

-- ---- what was acknowledged

-- whether a message that waits is a reply to the request of this number
abbrev pub is_reply_to : ℕ → Waiting → Bool
is_reply_to number w = is_reply w.kind && w.number == number

-- the messages that acknowledgements of a kind are of: requests or replies
abbrev pub is_acked_by : Kind → Kind → Bool
is_acked_by kinds.Msg kind = is_request kind
is_acked_by kinds.Rpy kind = is_reply kind
is_acked_by kinds.Err kind = is_reply kind
is_acked_by kinds.AckMsg kind = is_request kind
is_acked_by kinds.AckRpy kind = is_reply kind

-- whether an acknowledgement of this kind and this number is of a message
abbrev pub is_of : Kind → ℕ → Waiting → Bool
is_of kind number w = is_acked_by kind w.kind && w.number == number

-- the waiting message that an acknowledgement is of
abbrev pub acked_of : Kind → ℕ → List Waiting → Option Waiting
acked_of kind number ws = find (is_of kind number) ws

-- how many bytes of it were sent: none where it does not wait
abbrev pub sent_of : Kind → ℕ → List Waiting → ℕ
sent_of kind number ws = option_map_or (λ w. w.sent) (acked_of kind number ws) 0

-- the greatest number of the messages that were put
abbrev pub last_put : Kind → Sending → ℕ
last_put kind s = if is_acked_by kind kinds.Msg then s.requests else s.replies

-- Whether an acknowledgement can't be true: of the number 0, of a message that was never put, or of more bytes than were sent of one that waits.
abbrev pub is_bad_ack : Kind → ℕ → ℕ → Sending → Bool
is_bad_ack kind number bytes s =
    number == 0 || nat_lt (last_put kind s) number || option_map_or (λ w. nat_lt w.sent bytes) (acked_of kind number s.waiting) false

-- the greatest count is kept
abbrev pub acked : ℕ → Waiting → Waiting
acked bytes w = record w { acknowledged = max bytes w.acknowledged }

-- the messages once an acknowledgement of one of them has come
abbrev pub acked_in : Kind → ℕ → ℕ → List Waiting → List Waiting
acked_in kind number bytes [] = []
acked_in kind number bytes (w ∷ ws) = if is_of kind number w then acked bytes w ∷ ws else w ∷ acked_in kind number bytes ws

-- ---- what is written

-- The frame that was to be sent was put at the end and taken into the checksum, or there was none and nothing was done.
abbrev pub Sends : Option FrameParts → Next → ℕ → ℕ → List ℕ → List ℕ → Type 0
Sends None nexts.Idle before after old new = (after ≡ before) × (new ≡ old)
Sends None nexts.Frame before after old new = ⊥
Sends (Some f) nexts.Idle before after old new = ⊥
Sends (Some f) nexts.Frame before after old new = (after ≡ value_after before f) × (new ≡ old ++ spelling (value_after before f) f)

-- The same in a direction in which these payload bytes were sent before.
abbrev pub SendsAfter : List ℕ → Option FrameParts → Next → ℕ → List ℕ → List ℕ → Type 0
SendsAfter sent None nexts.Idle after old new = (after ≡ checksum sent) × (new ≡ old)
SendsAfter sent None nexts.Frame after old new = ⊥
SendsAfter sent (Some f) nexts.Idle after old new = ⊥
SendsAfter sent (Some f) nexts.Frame after old new = (after ≡ checksum (payload_sent_after sent f)) × WritesAfter sent old new f
