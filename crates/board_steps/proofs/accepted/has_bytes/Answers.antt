use Rattle.board_steps.proofs.Entries.{some_bytes}
use Rattle.board_steps.proofs.accepted.has_bytes.Goals as goal

pub returns-clause-yes : goal.returns-clause-yes
returns-clause-yes c = λ some. some_bytes c.args.body.now c.is_empty.result c.type_inv.body c.is_empty.ensures some
