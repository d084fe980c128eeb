use Rattle.std.proofs.Common.{◌≡◌, ◌++◌, length}
use Rattle.session_core.specs.Acts.{body_acts}
use Rattle.session_core.proofs.bodies.bodies.Given as goal

abbrev pub invariant-loop-answer : goal.invariant-loop-answer
invariant-loop-answer l = record {
  acts : l.acts.items ++ body_acts l.rows l.answer-iterator.rest.items ≡ body_acts l.fn.rows l.fn.answers.items;
  len : l.answer-iterator.rest.len ≡ length l.answer-iterator.rest.items;
}
