use Rattle.tests_of_history.proofs.Drawn.{held_can}
use Rattle.tests_of_history.proofs.turns.store_at.Goals as goal

pub store_in-stored-requires-clause-can : goal.store_in-stored-requires-clause-can
store_in-stored-requires-clause-can g c =
    held_can c.args.pass.knows c.enter-turn.result.found c.args.number c.args.entry c.enter-turn.ensures.finds c.requires.held c.requires.entry c.requires.no_sync
