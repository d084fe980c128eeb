use Rattle.std.proofs.Common.{◌≡◌, ◌++◌, take}
use Rattle.std.specs.List.{flat_map}
use Rattle.transcripts.specs.Transcript.{send_line}
use Rattle.transcripts.proofs.session_text.write_frames.Given as goal

abbrev pub invariant-loop-frame : goal.invariant-loop-frame
invariant-loop-frame l = l.out ≡ l.initial.out ++ flat_map send_line (take l.frame-index l.frames)
