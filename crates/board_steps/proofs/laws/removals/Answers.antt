use Rattle.board_steps.proofs.BodyLaws.{removed_gone, removed_by, gone_removed}
use Rattle.board_steps.proofs.laws.removals.Goals as goal

pub returns-clause-gone : goal.returns-clause-gone
returns-clause-gone c = removed_gone

pub returns-clause-change : goal.returns-clause-change
returns-clause-change c = removed_by

pub returns-clause-all : goal.returns-clause-all
returns-clause-all c = gone_removed
