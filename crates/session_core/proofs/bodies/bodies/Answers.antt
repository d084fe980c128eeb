use Rattle.std.proofs.Common.{◌≡◌, ◌++◌, [], List, ap, sym, ◌∙◌, arith, append-nil}
use Rattle.std.proofs.lemmas.List.{nil_from_length}
use Rattle.session_core.specs.declared.act.Act.{Act}
use Rattle.session_core.specs.Acts.{body_acts}
use Rattle.session_core.proofs.Answered.{no_answers}
use Rattle.session_core.proofs.bodies.bodies.Goals as goal

pub returns : goal.returns
returns c =
    let none : c.loop-answer.answer-iterator.rest.items ≡ [] = nil_from_length c.loop-answer.answer-iterator.rest.items (omega (arith, c.loop-answer.invariant.len, c.in-None.ensures.steps.0)) in
    let rest : body_acts c.loop-answer.rows.now c.loop-answer.answer-iterator.rest.items ≡ [] = ap (body_acts c.loop-answer.rows.now) none ∙ no_answers c.loop-answer.rows.now in
    sym (append-nil c.loop-answer.acts.items) ∙ ap (λ (l : List Act). c.loop-answer.acts.items ++ l) (sym rest) ∙ c.loop-answer.invariant.acts
