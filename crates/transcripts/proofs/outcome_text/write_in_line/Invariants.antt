use Rattle.std.proofs.Common.{◌≡◌, ◌++◌, take}
use Rattle.transcripts.specs.Transcript.{in_one_line}
use Rattle.transcripts.proofs.outcome_text.write_in_line.Given as goal

abbrev pub invariant-loop-byte : goal.invariant-loop-byte
invariant-loop-byte l = l.out ≡ l.initial.out ++ in_one_line (take l.byte-index l.text)
