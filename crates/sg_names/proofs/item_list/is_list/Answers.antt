use Rattle.std.proofs.Common.{◌≢◌, [], ◌∷◌, map}
use Rattle.std.proofs.lemmas.Slice.Eq.{bytes_eq-Decides}
use Rattle.sg_names.proofs.Lists.{list_from_parts, parts_from_list}
use Rattle.sg_names.proofs.item_list.is_list.Goals as goal

pub returns-else-eq-clause-yes : goal.returns-else-eq-clause-yes
returns-else-eq-clause-yes g c = λ is.
    let has = c.are_items.ensures.yes is in
    (has.items, has.admitted, list_from_parts c.args.text.now (map g.T.Item.text has.items) has.parts)

pub returns-else-eq-clause-no : goal.returns-else-eq-clause-no
returns-else-eq-clause-no g c = λ is xs h e.
    let other : c.args.text.now ≢ 45 ∷ [] = λ same. cc ((bytes_eq-Decides c.args.text.now (45 ∷ [])).1 same, c.if-eq.ensures) in
    c.are_items.ensures.no is xs h (parts_from_list g.T.Item.text g.T.Item.admits c.requires c.args.text.now xs other h e)
