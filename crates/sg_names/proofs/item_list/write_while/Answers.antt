use Rattle.sg_names.proofs.ListTexts.{list_text-first, appended_both}
use Rattle.sg_names.proofs.item_list.write_while.Goals as goal

pub returns-in_ok-write_further-in-len1-up-clause-ok :
    goal.returns-in_ok-write_further-in-len1-up-clause-ok
returns-in_ok-write_further-in-len1-up-clause-ok g c =
    appended_both c.args.out.now _ _ _ _ _
    (list_text-first g.T.Item.text c.first-item.result c.args.items.now c.in-len1-up.len_at_least c.first-item.is)
    c.in_ok-print-in-len1-up.ensures.ok
    c.in_ok-write_further-in-len1-up.ensures.ok
