-- The messages that frames give.
use Rattle.std.specs.Prelude.{ℕ, zero, suc, ◌+◌, ◌-◌, Bool, true, false, not, ◌&&◌, ◌||◌, List, [], ◌∷◌, ◌++◌, length, max, nat_le, nat_lt, Option, Some, None, Result, Ok, Err, unwrap_or, ◌==◌, if◌then◌else◌}
use Rattle.blip_frame.specs.Frame.{FrameParts, kind_number, has_checksum}
use Rattle.blip_frame.specs.Payload.{payload_at}
use Rattle.blip_frame.specs.Props.{Pair}
use Rattle.blip_frame.specs.Varint.{number_at}
use Rattle.blip_frame.specs.declared.frame.Kind.{Kind}
use Rattle.blip_frame.specs.declared.frame.Kind.TheVariants as kinds
use Rattle.blip_frame.specs.declared.payload.PayloadFault.{PayloadFault}
use Rattle.blip_frame.specs.declared.varint.VarintFault.{VarintFault}
use Rattle.blip_mux.specs.declared.message.Message.{Message}
use Rattle.blip_mux.specs.declared.inbox.Taken.{Taken}
use Rattle.blip_mux.specs.declared.inbox.Taken.TheVariants as takens
use Rattle.blip_mux.specs.declared.inbox.TakeFault.{TakeFault}
use Rattle.blip_mux.specs.declared.inbox.TakeFault.TheVariants as faults
use Rattle.blip_mux.specs.Begun.{Begun}

-- ---- kinds

abbrev pub is_request : Kind → Bool
is_request kinds.Msg = true
is_request kinds.Rpy = false
is_request kinds.Err = false
is_request kinds.AckMsg = false
is_request kinds.AckRpy = false

abbrev pub is_reply : Kind → Bool
is_reply kinds.Msg = false
is_reply kinds.Rpy = true
is_reply kinds.Err = true
is_reply kinds.AckMsg = false
is_reply kinds.AckRpy = false

-- the kind of the acknowledgements of a message of this kind
abbrev pub acknowledges : Kind → Kind
acknowledges kinds.Msg = kinds.AckMsg
acknowledges kinds.Rpy = kinds.AckRpy
acknowledges kinds.Err = kinds.AckRpy
acknowledges kinds.AckMsg = kinds.AckMsg
acknowledges kinds.AckRpy = kinds.AckRpy

-- ---- what has arrived of one message

-- so many bytes after the last acknowledgement the next one is owed
abbrev pub acknowledge_after : ℕ
acknowledge_after = 50000

-- how many bytes are not acknowledged, where an acknowledgement that is owed is counted as sent
abbrev pub once_owed : ℕ → ℕ
once_owed bytes = if nat_le acknowledge_after bytes then 0 else bytes

-- before its first frame, whose number, kind and marks a message has
abbrev pub begun_by : FrameParts → Begun
begun_by f = record { kind = f.kind; urgent = f.urgent; no_reply = f.no_reply; bytes = []; unacknowledged = 0 }

-- what had come, or nothing yet
abbrev pub begun_or : Option Begun → FrameParts → Begun
begun_or so_far f = unwrap_or so_far (begun_by f)

-- with one frame more
abbrev pub with_frame : Begun → FrameParts → Begun
with_frame b f = record b { bytes = b.bytes ++ f.payload; unacknowledged = once_owed (b.unacknowledged + length f.payload) }

-- what came with these frames of a message, the newest of which is the first of the list
abbrev pub brought_by : List FrameParts → Option Begun
brought_by [] = None
brought_by (f ∷ before) = Some (with_frame (begun_or (brought_by before) f) f)

-- ---- what one frame gives

-- how many bytes an acknowledgement counts, whose payload is exactly one varint
abbrev pub alone : ℕ → List ℕ → Option ℕ
alone n [] = Some n
alone n (b ∷ bytes) = None

abbrev pub count_in : Result (ℕ × List ℕ) VarintFault → Option ℕ
count_in (Ok found) = alone found.0 found.1
count_in (Err fault) = None

abbrev pub acknowledged : FrameParts → Option ℕ → Result Taken TakeFault
acknowledged f (Some bytes) = Ok (takens.Ack f.kind f.number bytes)
acknowledged f None = Err faults.BadAckPayload

-- what was read of a payload, or its fault, as one of the frame
abbrev pub with_fault : Result (List Pair × List ℕ) PayloadFault → Result (List Pair × List ℕ) TakeFault
with_fault (Ok read) = Ok read
with_fault (Err fault) = Err (faults.Payload fault)

-- a message with these properties and this body, or the fault of its payload
abbrev pub read_as : ℕ → Begun → Result (List Pair × List ℕ) TakeFault → Result Message TakeFault
read_as number b (Ok read) = Ok (record { number = number; kind = b.kind; urgent = b.urgent; no_reply = b.no_reply; payload = record { props = read.0; body = read.1 } })
read_as number b (Err fault) = Err fault

-- the message, where the last frame of it comes
abbrev pub message_by : Begun → FrameParts → Result Message TakeFault
message_by b f = read_as f.number b (with_fault (payload_at (b.bytes ++ f.payload)))

abbrev pub whole : Result Message TakeFault → Result Taken TakeFault
whole (Ok message) = Ok (takens.Whole message)
whole (Err fault) = Err fault

-- what a frame gives that is not the last of its message: an acknowledgement of all bytes so far is owed, or nothing
abbrev pub part_by : Begun → FrameParts → Taken
part_by b f =
    if nat_le acknowledge_after (b.unacknowledged + length f.payload)
    then takens.Owed (acknowledges f.kind) f.number (length (b.bytes ++ f.payload))
    else takens.Nothing

-- what a frame gives that may come
abbrev pub given_by : Begun → FrameParts → Result Taken TakeFault
given_by b f = if f.more then Ok (part_by b f) else whole (message_by b f)

-- ---- what messages that are not whole hold

-- the most bytes of a message
abbrev pub longest_message : ℕ
longest_message = 25165824

-- the most that messages hold together which are not whole
abbrev pub most_held : ℕ
most_held = 134217728

-- what a message holds of which so much has come: its bytes and 64
abbrev pub held_by : Option Begun → ℕ
held_by None = 0
held_by (Some b) = length b.bytes + 64

-- What a frame gives that may come, or its first fault: where messages that are not whole hold so much, and so much of its message has come.
abbrev pub within : ℕ → Option Begun → FrameParts → Result Taken TakeFault
within held so_far f =
    if nat_lt longest_message (length ((begun_or so_far f).bytes ++ f.payload)) then Err (faults.TooLong f.number)
    else (if f.more && nat_lt most_held (held - held_by so_far + held_by (Some (with_frame (begun_or so_far f) f))) then Err (faults.Full f.number) else given_by (begun_or so_far f) f)

-- Whether a frame may begin a message: a request with the number after the last one's, or a reply that is awaited.
abbrev pub may_begin : ℕ → Bool → FrameParts → Bool
may_begin requests awaited f = (is_request f.kind && f.number == requests + 1) || (is_reply f.kind && awaited)

-- Whether a frame may come: as one more of a message of its kind, or as the first.
abbrev pub may_come : ℕ → Bool → Option Begun → FrameParts → Bool
may_come requests awaited (Some b) f = kind_number b.kind == kind_number f.kind
may_come requests awaited None f = may_begin requests awaited f

-- What a frame gives, or its first fault: where so many requests have begun, a reply of its number is awaited or is not, messages that are not whole hold so much, and so much of its message has come.
abbrev pub answer_to : ℕ → Bool → ℕ → Option Begun → FrameParts → Result Taken TakeFault
answer_to requests awaited held so_far f =
    if has_checksum f.kind
    then (if may_come requests awaited so_far f then within held so_far f else Err (faults.OutOfOrder f.number))
    else acknowledged f (count_in (number_at f.payload))

-- a fault that needs no memory to be found: that a frame may not come, or has no room
abbrev pub IsEarly : TakeFault → Type 0
IsEarly (faults.OutOfOrder number) = Unit {0}
IsEarly (faults.TooLong number) = Unit {0}
IsEarly (faults.Full number) = Unit {0}
IsEarly (faults.Payload fault) = ⊥
IsEarly faults.BadAckPayload = ⊥
IsEarly faults.Memory = ⊥

-- ---- over all that has come

-- a frame comes, or a reply to the request of a number is expected from now on
pub data Event : Type 0 where
  came : FrameParts → Event
  expected : ℕ → Event

-- the greatest number of the requests that have begun; the last event is the first of the list
abbrev pub requests_in : List Event → ℕ
requests_in [] = 0
requests_in (came f ∷ before) = if is_request f.kind then max f.number (requests_in before) else requests_in before
requests_in (expected number ∷ before) = requests_in before

-- whether a reply to the request of this number is expected, and none has come whole since; the last event is the first of the list
abbrev pub is_awaited : List Event → ℕ → Bool
is_awaited [] number = false
is_awaited (came f ∷ before) number = not (is_reply f.kind && not f.more && number == f.number) && is_awaited before number
is_awaited (expected other ∷ before) number = number == other || is_awaited before number

-- the frames of the message of this class and this number that has begun and is not whole, the newest first; the last event is the first of the list
abbrev pub frames_of : (Kind → Bool) → ℕ → List Event → List FrameParts
frames_of class number [] = []
frames_of class number (came f ∷ before) =
    if class f.kind && number == f.number then (if f.more then f ∷ frames_of class number before else []) else frames_of class number before
frames_of class number (expected other ∷ before) = frames_of class number before

-- what has arrived of the message that a frame is part of
abbrev pub so_far_in : List Event → FrameParts → Option Begun
so_far_in before f = brought_by (if is_request f.kind then frames_of is_request f.number before else frames_of is_reply f.number before)

-- the greatest number of a frame among events
abbrev pub greatest_in : List Event → ℕ
greatest_in [] = 0
greatest_in (came f ∷ before) = max f.number (greatest_in before)
greatest_in (expected number ∷ before) = greatest_in before

-- what the message of this class and this number holds
abbrev pub held_at : (Kind → Bool) → ℕ → List Event → ℕ
held_at class number before = held_by (brought_by (frames_of class number before))

-- what those of a class hold together whose numbers are up to this one
abbrev pub held_up_to : (Kind → Bool) → ℕ → List Event → ℕ
held_up_to class zero before = held_at class zero before
held_up_to class (suc number) before = held_at class (suc number) before + held_up_to class number before

-- what all hold together that are not whole
abbrev pub held_in : List Event → ℕ
held_in before = held_up_to is_request (greatest_in before) before + held_up_to is_reply (greatest_in before) before

-- what a frame gives after these events, or its first fault
abbrev pub answer_in : List Event → FrameParts → Result Taken TakeFault
answer_in before f = answer_to (requests_in before) (is_awaited before f.number) (held_in before) (so_far_in before f) f

-- what each frame gives, and the fault that ends them where there is one
abbrev pub Joined : Type 0
Joined = List Taken × Option TakeFault

-- what a frame gives before what those give that follow, or a fault, which nothing follows
abbrev pub followed_by : Result Taken TakeFault → Joined → Joined
followed_by (Ok taken) rest = (taken ∷ rest.0, rest.1)
followed_by (Err fault) rest = ([], Some fault)

-- What the frames among events give up to the first fault, after what came before them.
abbrev pub joined_after : List Event → List Event → Joined
joined_after before [] = ([], None)
joined_after before (came f ∷ events) = followed_by (answer_in before f) (joined_after (came f ∷ before) events)
joined_after before (expected number ∷ events) = joined_after (expected number ∷ before) events

-- what the frames among events give from the beginning up to the first fault
abbrev pub joined : List Event → Joined
joined events = joined_after [] events
