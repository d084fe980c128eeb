use Rattle.std.proofs.Common.{◌≢◌, [], ◌∷◌, sym, ap, ◌∙◌, refl}
use Rattle.std.proofs.lemmas.Slice.Eq.{bytes_eq-Decides}
use Rattle.sg_names.specs.ItemList.{rises}
use Rattle.sg_names.proofs.Lists.{lists_same, parts_from_list}
use Rattle.sg_names.proofs.item_list.rises.Goals as goal

pub returns-then-eq : goal.returns-then-eq
returns-then-eq g c = λ xs h e.
    let dash = (bytes_eq-Decides c.args.text.now (45 ∷ [])).0 (sym c.if-eq.ensures) in
    ap (rises g.T.Rising.order) (lists_same g.T.Item.text g.T.Item.admits c.requires [] xs refl h (sym dash ∙ e))

pub returns : goal.returns
returns g c = λ xs h e.
    let other : c.args.text.now ≢ 45 ∷ [] = λ same. cc ((bytes_eq-Decides c.args.text.now (45 ∷ [])).1 same, c.if-eq.ensures) in
    c.parts_rise.ensures xs h (parts_from_list g.T.Item.text g.T.Item.admits c.requires c.args.text.now xs other h e)
