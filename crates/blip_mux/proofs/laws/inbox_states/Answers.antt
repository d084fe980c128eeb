use Rattle.blip_mux.proofs.Joins.{stands_new, stands_after, stands_expecting, same_answer}
use Rattle.blip_mux.proofs.laws.inbox_states.Goals as goal

pub returns-clause-new : goal.returns-clause-new
returns-clause-new c = stands_new

pub returns-clause-came : goal.returns-clause-came
returns-clause-came c = stands_after

pub returns-clause-expected : goal.returns-clause-expected
returns-clause-expected c = stands_expecting

pub returns-clause-answer : goal.returns-clause-answer
returns-clause-answer c = same_answer
