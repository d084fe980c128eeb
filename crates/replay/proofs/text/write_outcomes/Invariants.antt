use Rattle.std.proofs.Common.{◌≡◌, ◌++◌, map, take}
use Rattle.transcripts.specs.Transcript.{outcome_lines}
use Rattle.replay.specs.Runs.{outcome_of}
use Rattle.replay.proofs.text.write_outcomes.Given as goal

abbrev pub invariant-loop-i : goal.invariant-loop-i
invariant-loop-i l = l.out ≡ l.initial.out ++ outcome_lines 2 (map outcome_of (take l.i l.outcomes))
