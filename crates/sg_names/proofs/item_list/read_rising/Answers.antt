use Rattle.std.proofs.Common.{◌≡◌, true}
use Rattle.std.proofs.lemmas.Bool.{and_parts, and_from}
use Rattle.std.proofs.lemmas.Result.{IfOk-weaker}
use Rattle.sg_names.specs.ItemList.{rises}
use Rattle.sg_names.proofs.item_list.read_rising.Goals as goal

pub returns-clause-ok : goal.returns-clause-ok
returns-clause-ok g c =
    IfOk-weaker c.read_list.result _ _ (λ v read.
    (read.0, and_from _ _ read.1 (cc (c.rises.ensures v.items read.1 read.0, c.if-not-rises.false)))) c.read_list.ensures.ok

pub returns-clause-bad : goal.returns-clause-bad
returns-clause-bad g c = λ fault xs h e. c.read_list.ensures.bad fault xs (and_parts _ _ h).0 e

pub returns-clause-outside : goal.returns-clause-outside
returns-clause-outside g c = λ none.
    c.read_list.ensures.outside (λ xs h e. none xs (and_from _ _ h (cc (c.rises.ensures xs h e, c.if-not-rises.false))) e)

pub returns-then-not-rises-clause-bad : goal.returns-then-not-rises-clause-bad
returns-then-not-rises-clause-bad g c = λ fault xs h e.
    let both = and_parts _ _ h in
    let risen : rises g.T.Rising.order xs ≡ true = both.1 in
    cc (c.rises.ensures xs both.0 e, risen, c.if-not-rises.true)
