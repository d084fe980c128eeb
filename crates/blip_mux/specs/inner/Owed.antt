-- What is owed for a frame that is not the last of its message. Only proofs need this.
use Rattle.std.specs.Prelude.{ℕ, ◌+◌, ◌++◌, length, nat_le, Option, Some, None, if◌then◌else◌}
use Rattle.blip_frame.specs.Frame.{FrameParts}
use Rattle.blip_mux.specs.declared.inbox.Taken.{Taken}
use Rattle.blip_mux.specs.declared.inbox.Taken.TheVariants as takens
use Rattle.blip_mux.specs.Begun.{Begun}
use Rattle.blip_mux.specs.Joining.{acknowledge_after, acknowledges}

-- how many bytes have come, where an acknowledgement of them is owed
abbrev pub owed_by : Begun → FrameParts → Option ℕ
owed_by b f = if nat_le acknowledge_after (b.unacknowledged + length f.payload) then Some (length (b.bytes ++ f.payload)) else None

-- what the frame gives then
abbrev pub taken_of : FrameParts → Option ℕ → Taken
taken_of f (Some bytes) = takens.Owed (acknowledges f.kind) f.number bytes
taken_of f None = takens.Nothing
