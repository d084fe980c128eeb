use Rattle.rev_tree.proofs.TreeSteps.{tips_rise}
use Rattle.rev_tree.proofs.tree.tree_of.Goals as goal

pub winner_among-requires : goal.winner_among-requires
winner_among-requires c = rw c.requires.tips (tips_rise c.args.nodes c.requires.tree)
