use Rattle.sg_names.proofs.Lists.{starts_cut, starts_whole}
use Rattle.sg_names.proofs.item_list.first_part.Goals as goal

pub returns-in-Some : goal.returns-in-Some
returns-in-Some c =
    let seam = c.in-Some.ensures.some in
    starts_cut c.args.text.now c.in-Some.part.now c.in-Some.field-0-1.now seam.0 seam.1

pub returns-in-None : goal.returns-in-None
returns-in-None c = starts_whole c.args.text.now c.in-None.ensures.none
