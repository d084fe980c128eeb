use Rattle.std.proofs.Common.{◌++◌, ◌∙◌, List, ℕ, ap}
use Rattle.transcripts.specs.Transcript.{ended_lines}
use Rattle.replay_in_turn.proofs.session.serve.Goals as goal

pub returns-in-Ok : goal.returns-in-Ok
returns-in-Ok c = record {
  ended = c.serve_session-ground.result.1;
  after = _;
  served = c.serve_session-ground.ensures.session;
  printed = c.in-Ok.ensures ∙ ap (λ (frames : List (List ℕ)). c.args.out.now ++ ended_lines c.serve_session-ground.result.1 frames) c.as_slice.ensures.value;
}
