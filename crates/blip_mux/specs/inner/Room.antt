-- Whether a frame has room among the messages that are not whole. Only proofs need this.
use Rattle.std.specs.Prelude.{ℕ, ◌+◌, ◌-◌, ◌&&◌, length, nat_lt, Option, Some, None, option_map, unwrap_or, Result, Ok, Err, if◌then◌else◌}
use Rattle.blip_frame.specs.Frame.{FrameParts}
use Rattle.blip_mux.specs.Begun.{Begun}
use Rattle.blip_mux.specs.Joining.{longest_message, most_held}
use Rattle.blip_mux.specs.declared.inbox.TakeFault.{TakeFault}
use Rattle.blip_mux.specs.declared.inbox.TakeFault.TheVariants as faults

-- how many bytes of a message have come
abbrev pub bytes_come : Option Begun → Option ℕ
bytes_come so_far = option_map (λ b. length b.bytes) so_far

-- what it holds
abbrev pub held_for : Option ℕ → ℕ
held_for None = 0
held_for (Some bytes) = bytes + 64

-- how many bytes of it have come with this frame
abbrev pub with_payload : Option ℕ → FrameParts → ℕ
with_payload come f = unwrap_or come 0 + length f.payload

-- what all hold together once a frame was taken, where they hold so much and so many bytes of its message have come; or why it has no room
abbrev pub room_for : ℕ → Option ℕ → FrameParts → Result ℕ TakeFault
room_for held come f =
    if nat_lt longest_message (with_payload come f) then Err (faults.TooLong f.number)
    else (if f.more && nat_lt most_held (held - held_for come + (with_payload come f + 64)) then Err (faults.Full f.number)
    else Ok (held - held_for come + (if f.more then with_payload come f + 64 else 0)))
