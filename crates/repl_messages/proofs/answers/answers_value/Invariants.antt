use Rattle.std.proofs.Common.{◌≡◌, ◌++◌, map, drop}
use Rattle.serde_json.specs.View.{view}
use Rattle.repl_messages.specs.Answers.{answer_data}
use Rattle.repl_messages.proofs.answers.answers_value.Given as goal

abbrev pub invariant-loop-answer : goal.invariant-loop-answer
invariant-loop-answer l = map view l.values.items ++ map (λ a. answer_data l.proposed a) (drop l.answer-index l.answers) ≡ map (λ a. answer_data l.proposed a) l.answers
