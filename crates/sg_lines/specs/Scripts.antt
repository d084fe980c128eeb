-- scripts of the calls that fail; calls are counted from 0, and none fails past the script's end
use Rattle.std.specs.Prelude.{◌≡◌, ◌≢◌, ◌⊎◌, ℕ, Bool, true, false, List, Option, Some, None, Result, IsOk, IsErr, vec_capacity}
use Rattle.sg_outside.specs.declared.scripted_wire.ScriptedWire.{ScriptedWire}
use Rattle.sg_lines.specs.declared.door.Opening.{Opening}
use Rattle.sg_lines.specs.declared.line_socket.LineTrace.{LineTrace}
use Rattle.sg_outside.specs.declared.wire.Got.{Got}
use Rattle.sg_outside.specs.Wire.{LineRead, no_line}
use Rattle.sg_outside.specs.Scripts.{sendings_of}
use Rattle.sg_lines.specs.declared.inputs.LineInput.{LineInput}
use Rattle.sg_lines.specs.Inputs.{next_read, after_read}
use Rattle.sg_lines.specs.declared.link.Took.{Took}
use Rattle.sg_lines.specs.declared.link.Took.TheVariants as took
use Rattle.sg_lines.specs.declared.door.Met.{Met}
use Rattle.sg_lines.specs.declared.door.Met.TheVariants as met
use Rattle.sg_lines.specs.declared.scripted_link.ScriptedLink.{ScriptedLink}
use Rattle.sg_lines.specs.declared.scripted_door.ScriptedDoor.{ScriptedDoor}

-- the calls so far
abbrev pub calls_of : ScriptedLink → ℕ
calls_of link = link.calls

abbrev pub door_calls_of : ScriptedDoor → ℕ
door_calls_of door = door.calls

-- the words of each opening of a door, the traces for which there was a place, and the places
abbrev pub scripted_openings_of : ScriptedDoor → List Opening
scripted_openings_of door = door.state.openings.items

abbrev pub scripted_traces_of : ScriptedDoor → List (LineTrace ScriptedWire)
scripted_traces_of door = door.state.traces.items

abbrev pub scripted_places_of : ScriptedDoor → ℕ
scripted_places_of door = vec_capacity door.state.traces

-- the lines of a door that are still to come, and the inputs of a line
abbrev pub scripted_waiting_at : ScriptedDoor → List ScriptedLink
scripted_waiting_at door = door.state.lines.items

abbrev pub scripted_coming_by : ScriptedLink → List LineInput
scripted_coming_by link = link.inputs

-- the results that come by the socket of a line, and which of its sendings fail
abbrev pub scripted_frames_by : ScriptedLink → List Got
scripted_frames_by link = link.frames.items

abbrev pub send_fails_by : ScriptedLink → List Bool
send_fails_by link = link.send_fails.items

-- the same scripts
abbrev pub KeepsScripts : ScriptedLink → ScriptedLink → Type 0
KeepsScripts before after = (after.script ≡ before.script) × (after.frames ≡ before.frames) × (after.send_fails ≡ before.send_fails)

-- the same line, which has recorded nothing yet
abbrev pub renewed_scripted : ScriptedLink → ScriptedLink
renewed_scripted link = record link { log = no_line }

-- of a socket nothing was sent yet, and these sendings fail
abbrev pub FailsAtFirst : List Bool → ScriptedWire → Type 0
FailsAtFirst fails wire = (wire.send_fails.items ≡ fails) × (sendings_of wire ≡ 0)

-- reading fails exactly where the script says so; the end may come instead
abbrev pub ReadsByScript : Option ℕ → Took → Type 0
ReadsByScript None result = result ≢ took.Failed
ReadsByScript (Some most) result = (result ≡ took.Failed) ⊎ (result ≡ took.End)

-- where the script lets it, reading gives the next of what is to come, and else nothing of it
abbrev pub ReadsComing : Option ℕ → ℕ → List LineInput → LineRead → List LineInput → Type 0
ReadsComing None room before result after = (result ≡ next_read room before) × (after ≡ after_read room before)
ReadsComing (Some most) room before result after = after ≡ before

module _ {L : Type 0} where
  -- accepting fails exactly where the script says so; that memory ran out may come instead
  abbrev pub AcceptsByScript : Bool → Met L → Type 0
  AcceptsByScript true answer = (answer ≡ met.Failed) ⊎ (answer ≡ met.Memory)
  AcceptsByScript false answer = answer ≢ met.Failed

module _ {S T : Type 0} where
  -- a socket is refused exactly where the script says so
  abbrev pub SocketByScript : Option ℕ → Result S T → Type 0
  SocketByScript None answer = IsOk answer
  SocketByScript (Some most) answer = IsErr answer
