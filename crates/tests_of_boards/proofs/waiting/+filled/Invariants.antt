use Rattle.tests_of_boards.proofs.waiting.+filled.Given as goal

abbrev pub decreases-filled : goal.decreases-filled
decreases-filled l = l.count
