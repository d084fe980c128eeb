use Rattle.board_steps.proofs.Said.{bodies_later, fed_later, later_itself, later_than_later}
use Rattle.board_steps.proofs.laws.later.Goals as goal

pub returns-clause-reflexive : goal.returns-clause-reflexive
returns-clause-reflexive c = later_itself

pub returns-clause-transitive : goal.returns-clause-transitive
returns-clause-transitive c = later_than_later

pub returns-clause-feed : goal.returns-clause-feed
returns-clause-feed c = fed_later

pub returns-clause-bodies : goal.returns-clause-bodies
returns-clause-bodies c = bodies_later c.later.ensures.log c.later_boards.ensures.trees c.later_boards.ensures.least
