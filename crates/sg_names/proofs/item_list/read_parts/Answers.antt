use Rattle.std.proofs.Common.{◌≢◌, [], ◌∷◌, map}
use Rattle.std.proofs.lemmas.Result.{IfOk-weaker}
use Rattle.std.proofs.lemmas.Slice.Eq.{bytes_eq-Decides}
use Rattle.sg_names.proofs.Lists.{list_from_parts, parts_from_list}
use Rattle.sg_names.proofs.item_list.read_parts.Goals as goal

pub returns-clause-ok : goal.returns-clause-ok
returns-clause-ok g c =
    IfOk-weaker c.read_items.result _ _ (λ v read. (list_from_parts c.args.text.now (map g.T.Item.text v.items) read.0, read.1)) c.read_items.ensures.ok

pub returns-clause-bad : goal.returns-clause-bad
returns-clause-bad g c = λ fault xs h e.
    let other : c.args.text.now ≢ 45 ∷ [] = λ same. cc ((bytes_eq-Decides c.args.text.now (45 ∷ [])).1 same, c.if-eq.ensures) in
    c.read_items.ensures.bad fault xs h
    (parts_from_list g.T.Item.text g.T.Item.admits c.requires c.args.text.now xs other h e)
