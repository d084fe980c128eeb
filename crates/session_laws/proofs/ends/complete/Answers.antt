use Rattle.session_run.specs.Turns.{steps_of}
use Rattle.session_laws.proofs.Ending.{completes, replies_at_rest, sent_at_rest}
use Rattle.session_laws.proofs.ends.complete.Goals as goal

pub returns : goal.returns
returns c = record {
  ends = λ setup start final ended results sent failed s calm none few looks order.
      completes s.turns s.left s.taken s.last results failed s.results_are s.taken_are ended.end (steps_of s.turns) s.machine s.halted s.ends s.closed calm none few looks order;
  replies = replies_at_rest c.sessions.ensures.leads c.replies.ensures;
  sent = sent_at_rest;
}
