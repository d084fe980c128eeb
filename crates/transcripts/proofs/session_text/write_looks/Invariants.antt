use Rattle.std.proofs.Common.{◌≡◌, ◌++◌, take}
use Rattle.std.specs.List.{flat_map}
use Rattle.transcripts.specs.Transcript.{look_line}
use Rattle.transcripts.proofs.session_text.write_looks.Given as goal

abbrev pub invariant-loop-look : goal.invariant-loop-look
invariant-loop-look l = l.out ≡ l.initial.out ++ flat_map look_line (take l.look-index l.looks)
