use Rattle.repl_messages.proofs.OneAnswer.{answer-one}
use Rattle.repl_messages.proofs.laws.one_answer.Goals as goal

pub returns : goal.returns
returns c = answer-one (record { revs = c.revisions.ensures; lists = c.revision_lists.ensures; numbers = c.decimals.ensures.one })
