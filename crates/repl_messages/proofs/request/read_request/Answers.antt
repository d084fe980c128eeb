use Rattle.repl_messages.proofs.Batches.{bounded_read}
use Rattle.repl_messages.proofs.OneAnswer.{only-answer}
use Rattle.repl_messages.proofs.request.read_request.Goals as goal

pub returns-clause-bounded : goal.returns-clause-bounded
returns-clause-bounded c = bounded_read c.profile_of.result c.args.message.now.payload c.args.version _ c.read_payload.ensures.ok

pub returns-clause-only : goal.returns-clause-only
returns-clause-only c =
    only-answer c.profile_of.result c.args.message.now.payload c.args.version _ (λ a b h i. c.one_answer.ensures c.args.message.now.payload c.args.version a b h i)
    c.profile_of.ensures c.read_payload.ensures.ok c.read_payload.ensures.refused
