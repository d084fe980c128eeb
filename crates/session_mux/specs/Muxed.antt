-- What a frame that is received gives, and what messages do that are put.
use Rattle.std.specs.Prelude.{◌≡◌, ℕ, ◌+◌, Bool, true, false, List, [], ◌∷◌, length, Option, None, Ok}
use Rattle.sg_outside.specs.Wire.{Traffic}
use Rattle.sg_outside.specs.declared.sink.Gave.{Gave}
use Rattle.sg_outside.specs.declared.sink.Gave.TheVariants as gave
use Rattle.blip_frame.specs.Frame.{FrameParts, frame_at}
use Rattle.blip_frame.specs.declared.frame.Kind.{Kind}
use Rattle.blip_frame.specs.declared.frame.Kind.TheVariants as kinds
use Rattle.blip_frame.specs.declared.payload.Payload.{Payload}
use Rattle.blip_mux.specs.declared.message.Message.{Message}
use Rattle.blip_mux.specs.declared.inbox.Taken.{Taken}
use Rattle.blip_mux.specs.declared.inbox.Taken.TheVariants as takens
use Rattle.blip_mux.specs.declared.inbox.TakeFault.{TakeFault}
use Rattle.blip_mux.specs.declared.inbox.TakeFault.TheVariants as take_faults
use Rattle.blip_mux.specs.Between.{waiting_of}
use Rattle.blip_mux.specs.Cutting.{OutboxStep, owes, takes_ack, with_message, ArePicked, after_outbox_steps}
use Rattle.blip_mux.specs.InboxStates.{answer_at, taken_after}
use Rattle.blip_mux.specs.Sending.{Waiting, Sending, picked, is_bad_ack, sent_of, acked_in}
use Rattle.session_mux.specs.declared.frame_why.FrameWhy.TheVariants as whys
use Rattle.session_mux.specs.declared.mux.Mux.{Mux}
use Rattle.session_mux.specs.declared.mux.Took.{Took}
use Rattle.session_mux.specs.declared.mux.Took.TheVariants as took
use Rattle.session_mux.specs.Frames.{IsBadFrame, IsFrameFault}
use Rattle.session_mux.specs.Sent.{AreWrittenFrom, Records, expecting_by}

-- what a frame's acknowledgement does to what is to be sent: one that has come is taken, one that is owed waits
abbrev pub acknowledged_by : Taken → List OutboxStep
acknowledged_by takens.Nothing = []
acknowledged_by (takens.Ack kind number bytes) = takes_ack kind number bytes ∷ []
acknowledged_by (takens.Owed kind number bytes) = owes (record { kind = kind; number = number; bytes = bytes }) ∷ []
acknowledged_by (takens.Whole message) = []

-- an acknowledgement that has come can be true of what was sent
abbrev pub IsNoBadAck : Taken → Sending → Type 0
IsNoBadAck takens.Nothing s = Unit {0}
IsNoBadAck (takens.Ack kind number bytes) s = is_bad_ack kind number bytes s ≡ false
IsNoBadAck (takens.Owed kind number bytes) s = Unit {0}
IsNoBadAck (takens.Whole message) s = Unit {0}

-- the frame gave this, and its acknowledgement did what is due
pub record GivesFrame (m : Mux) (bytes : List ℕ) (given : Taken) (after : Mux) : Type 0 where
  pub frame : FrameParts
  pub read : frame_at m.received.value bytes ≡ Ok (frame, after.received.value)
  pub answer : answer_at m.inbox frame ≡ Ok given
  pub inbox : after.inbox ≡ taken_after m.inbox frame
  pub no_bad_ack : IsNoBadAck given m.outbox
  pub outbox : after.outbox ≡ after_outbox_steps m.outbox (acknowledged_by given)

-- no message
abbrev pub IsPartOfMessage : Taken → Type 0
IsPartOfMessage takens.Nothing = Unit {0}
IsPartOfMessage (takens.Ack kind number bytes) = Unit {0}
IsPartOfMessage (takens.Owed kind number bytes) = Unit {0}
IsPartOfMessage (takens.Whole message) = ⊥

-- the frame's message is taken, or it gave none, or it is at fault
abbrev pub IsTaken : Mux → List ℕ → Took → Mux → Type 0
IsTaken m bytes (took.Whole message) after = GivesFrame m bytes (takens.Whole message) after
IsTaken m bytes took.Part after = (given : Taken) × IsPartOfMessage given × GivesFrame m bytes given after
IsTaken m bytes (took.Bad why) after = IsBadFrame (frame_at m.received.value bytes) (answer_at m.inbox) m.outbox why
IsTaken m bytes took.Memory after = Unit {0}

-- an acknowledgement is taken, or can't be true
abbrev pub IsAcked : Kind → ℕ → ℕ → Sending → Took → Sending → Type 0
IsAcked kind number bytes out (took.Whole message) after = ⊥
IsAcked kind number bytes out took.Part after = (is_bad_ack kind number bytes out ≡ false) × (after ≡ record out { waiting = acked_in kind number bytes out.waiting })
IsAcked kind number bytes out (took.Bad why) after =
    (is_bad_ack kind number bytes out ≡ true) × (why ≡ whys.BadAck (record { number = number; bytes = bytes; sent = sent_of kind number out.waiting }))
IsAcked kind number bytes out took.Memory after = ⊥

-- what is said of the fault of a frame among those before it
abbrev pub IsTookFault : TakeFault → Took → Type 0
IsTookFault fault (took.Whole message) = ⊥
IsTookFault fault took.Part = ⊥
IsTookFault fault (took.Bad why) = IsFrameFault fault why
IsTookFault fault took.Memory = fault ≡ take_faults.Memory

-- a request of the gateway, of this number
abbrev pub request_message : ℕ → Bool → Payload → Message
request_message number no_reply payload =
    record { number = number; kind = kinds.Msg; urgent = false; no_reply = no_reply; payload = payload }

-- the reply to a request of this number, urgent where that was
abbrev pub reply_message : ℕ → Kind → Bool → Payload → Message
reply_message number kind urgent payload =
    record { number = number; kind = kind; urgent = urgent; no_reply = false; payload = payload }

-- a message is put: it waits, and the reply to a request that wants one is expected
abbrev pub with_put : Message → Mux → Mux
with_put message m = record m { inbox = expecting_by message m.inbox; outbox = with_message m.outbox (waiting_of message) }

-- how much is left to send: a frame at least for each acknowledgement and each message
abbrev pub left_of : List Waiting → ℕ
left_of [] = 0
left_of (w ∷ ws) = 1 + length w.rest + left_of ws

abbrev pub all_left_of : Sending → ℕ
all_left_of s = length s.acknowledgements + left_of s.waiting

-- where all was sent there is no next frame, and the checksum is that of what was sent
abbrev pub IsLeft : Gave → Sending → ℕ → Sending → ℕ → Type 0
IsLeft gave.Done left value now value_now = (picked left ≡ None) × (left ≡ now) × (value ≡ value_now)
IsLeft gave.Failed left value now value_now = Unit {0}
IsLeft gave.Memory left value now value_now = Unit {0}

-- the failure, where sending failed
abbrev pub failure_of : Gave → List Gave
failure_of gave.Done = []
failure_of gave.Failed = gave.Failed ∷ []
failure_of gave.Memory = []

-- frames were picked until this was left, and the wire records those that were sent, and that nothing was tried after a failure
abbrev pub HaveGone : Sending → ℕ → Option Traffic → Option Traffic → Gave → Sending → ℕ → Type 0
HaveGone s before traffic traffic_after result now value_now =
    (frames : List FrameParts) × (texts : List (List ℕ)) × (left : Sending) × (value : ℕ)
    × ArePicked s frames left × AreWrittenFrom before frames texts value × Records traffic [] texts (failure_of result) traffic_after
    × IsLeft result left value now value_now
