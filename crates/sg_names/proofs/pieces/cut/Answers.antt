use Rattle.sg_names.proofs.Cuts.{cut_some, cut_none}
use Rattle.sg_names.proofs.pieces.cut.Goals as goal

pub returns-clause-some : goal.returns-clause-some
returns-clause-some c = cut_some c.args.at c.args.text.now c.split_once.result c.split_once.ensures.cases c.requires

pub returns-clause-none : goal.returns-clause-none
returns-clause-none c = cut_none c.args.at c.args.text.now c.split_once.result c.split_once.ensures.cases c.requires
