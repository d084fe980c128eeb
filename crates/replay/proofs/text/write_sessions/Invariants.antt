use Rattle.std.proofs.Common.{◌≡◌, ◌++◌, take}
use Rattle.transcripts.specs.Transcript.{runs_text}
use Rattle.replay.specs.Runs.{runs_of}
use Rattle.replay.proofs.text.write_sessions.Given as goal

abbrev pub invariant-loop-i : goal.invariant-loop-i
invariant-loop-i l = l.out ≡ l.initial.out ++ runs_text 1 (runs_of (λ s. s.ended) (λ s. s.wire.sent.items) (take l.i l.users) (take l.i l.sessions))
