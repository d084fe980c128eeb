use Rattle.repl_messages.specs.Answers.{answer_data}
use Rattle.repl_messages.specs.declared.offers.OfferAnswer.{OfferAnswer}
use Rattle.repl_messages.proofs.Mapped.{mapped_more}
use Rattle.repl_messages.proofs.answers.answers_value.Goals as goal

pub loop-answer-preserved : goal.loop-answer-preserved
loop-answer-preserved c =
    mapped_more (λ (a : OfferAnswer). answer_data c.args.proposed a) c.args.answers.now c.loop-answer.answer-index c.answer-item.result
    c.in_ok-answer_value.field-0 c.loop-answer.values.items c.push.new.self.items c.loop-answer-test.true c.answer-item.is
    c.in_ok-answer_value.ensures c.in_ok-push.ensures.items c.loop-answer.invariant
