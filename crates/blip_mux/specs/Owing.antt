-- When acknowledgements are owed for the frames of one message, all with more to come. The newest frame is the first of a list.
use Rattle.std.specs.Prelude.{◌≡◌, ℕ, ◌+◌, Bool, true, false, List, [], ◌∷◌, ◌++◌, length}
use Rattle.blip_frame.specs.Frame.{FrameParts}
use Rattle.blip_mux.specs.declared.inbox.Taken.{Taken}
use Rattle.blip_mux.specs.declared.inbox.Taken.TheVariants as takens
use Rattle.blip_mux.specs.Joining.{begun_or, brought_by, part_by}

-- how many bytes came with frames
abbrev pub bytes_in : List FrameParts → ℕ
bytes_in [] = 0
bytes_in (f ∷ frames) = length f.payload + bytes_in frames

-- what a frame gives that comes after these
abbrev pub answer_after : List FrameParts → FrameParts → Taken
answer_after before f = part_by (begun_or (brought_by before) f) f

-- whether an acknowledgement is owed
abbrev pub owes : Taken → Bool
owes takens.Nothing = false
owes (takens.Ack kind number bytes) = false
owes (takens.Owed kind number bytes) = true
owes (takens.Whole message) = false

-- none is owed for frames that come after these
abbrev pub NoneOwed : List FrameParts → List FrameParts → Type 0
NoneOwed before [] = Unit {0}
NoneOwed before (f ∷ frames) = (owes (answer_after (frames ++ before) f) ≡ false) × NoneOwed before frames
