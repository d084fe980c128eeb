use Rattle.sg_history.proofs.Titles.{title_ended, title_other}
use Rattle.sg_history.proofs.header.fault_of_title.Goals as goal

pub returns-in-Some : goal.returns-in-Some
returns-in-Some c =
    let is = c.in-Some.ensures.some in
    title_ended c.args.line.now c.in-Some.field-0 c.requires is.0 is.1

pub returns-in-None : goal.returns-in-None
returns-in-None c = title_other c.args.line.now c.requires c.in-None.ensures.none
