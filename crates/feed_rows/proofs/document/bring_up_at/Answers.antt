use Rattle.std.proofs.Common.{◌∙◌, ap, map, []}
use Rattle.std.specs.Prelude.{slice_set}
use Rattle.std.proofs.lemmas.List.{map-set}
use Rattle.feed_rows.specs.Known.{Known, blank, known_in}
use Rattle.feed_rows.proofs.Loops.{item_there}
use Rattle.feed_rows.proofs.document.bring_up_at.Goals as goal

pub returns : goal.returns
returns c = λ e es doc renewed is.
    let items = c.args.documents.now.items in
    let k = c.args.place in
    map-set known_in items k c.bring_up.new.document
    ∙ ap (λ (x : Known). slice_set (map known_in items) k x)
    (c.bring_up.ensures e es doc renewed (item_there items k c.index_mut.result.now (blank []) c.requires.within c.index_mut.ensures.value ∙ is))
