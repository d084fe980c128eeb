-- The frames that are received, and why one is at fault.
use Rattle.std.specs.Prelude.{◌≡◌, ℕ, true, Result, Ok, Err}
use Rattle.blip_frame.specs.Frame.{FrameParts}
use Rattle.blip_frame.specs.declared.frame.FrameFault.{FrameFault}
use Rattle.blip_frame.specs.declared.frame.FrameFault.TheVariants as frame_faults
use Rattle.blip_mux.specs.Sending.{Sending, is_bad_ack, sent_of}
use Rattle.blip_mux.specs.declared.inbox.Taken.{Taken}
use Rattle.blip_mux.specs.declared.inbox.Taken.TheVariants as takens
use Rattle.blip_mux.specs.declared.inbox.TakeFault.{TakeFault}
use Rattle.blip_mux.specs.declared.inbox.TakeFault.TheVariants as take_faults
use Rattle.session_mux.specs.declared.frame_why.FrameWhy.{FrameWhy}
use Rattle.session_mux.specs.declared.frame_why.FrameWhy.TheVariants as why

-- the fault of a frame's bytes
abbrev pub why_of : FrameFault → FrameWhy
why_of frame_faults.Short = why.Short
why_of frame_faults.BadVarint = why.BadVarint
why_of (frame_faults.BadType flags) = why.BadType flags
why_of frame_faults.Compressed = why.Compressed
why_of (frame_faults.TooLong bytes) = why.FrameTooLong bytes
why_of (frame_faults.BadChecksum kept computed) = why.BadChecksum kept computed

-- the fault of a frame among those before it; lack of memory is none
abbrev pub IsFrameFault : TakeFault → FrameWhy → Type 0
IsFrameFault (take_faults.OutOfOrder number) w = w ≡ why.OutOfOrder number
IsFrameFault (take_faults.TooLong number) w = w ≡ why.TooLong number
IsFrameFault (take_faults.Full number) w = w ≡ why.Full number
IsFrameFault (take_faults.Payload fault) w = w ≡ why.Payload fault
IsFrameFault take_faults.BadAckPayload w = w ≡ why.BadAckPayload
IsFrameFault take_faults.Memory w = ⊥

-- the frame gives nothing, for this fault; or it is an acknowledgement that can't be true of what was sent
abbrev pub IsBadTaken : Result Taken TakeFault → Sending → FrameWhy → Type 0
IsBadTaken (Err fault) out w = IsFrameFault fault w
IsBadTaken (Ok takens.Nothing) out w = ⊥
IsBadTaken (Ok (takens.Ack kind number bytes)) out w =
    (is_bad_ack kind number bytes out ≡ true) × (w ≡ why.BadAck (record { number = number; bytes = bytes; sent = sent_of kind number out.waiting }))
IsBadTaken (Ok (takens.Owed kind number bytes)) out w = ⊥
IsBadTaken (Ok (takens.Whole message)) out w = ⊥

-- the bytes are no frame, or the frame is at fault
abbrev pub IsBadFrame : Result (FrameParts × ℕ) FrameFault → (FrameParts → Result Taken TakeFault) → Sending → FrameWhy → Type 0
IsBadFrame (Err fault) answer out w = w ≡ why_of fault
IsBadFrame (Ok found) answer out w = IsBadTaken (answer found.0) out w
