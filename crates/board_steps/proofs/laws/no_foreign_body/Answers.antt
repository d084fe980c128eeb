use Rattle.board_steps.proofs.BodyLaws.{rev_shown, rev_granted, rev_winner, shown_rev}
use Rattle.board_steps.proofs.Winners.{current_winner}
use Rattle.board_steps.proofs.laws.no_foreign_body.Goals as goal

pub returns-clause-shown : goal.returns-clause-shown
returns-clause-shown c = rev_shown

pub returns-clause-granted : goal.returns-clause-granted
returns-clause-granted c = rev_granted

pub returns-clause-winner : goal.returns-clause-winner
returns-clause-winner c = rev_winner

pub returns-clause-all : goal.returns-clause-all
returns-clause-all c = shown_rev

pub returns-clause-current : goal.returns-clause-current
returns-clause-current c = current_winner
