use Rattle.gateway_config.proofs.Sets.{has-after}
use Rattle.gateway_config.proofs.seen.note.Goals as goal

pub returns-clause-there : goal.returns-clause-there
returns-clause-there c = λ t. has-after c.args.seen.now c.insert.new.self c.args.text.now tt c.in_ok-insert.ensures.updates t
