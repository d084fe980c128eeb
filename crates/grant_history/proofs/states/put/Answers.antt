use Rattle.std.proofs.Common.{◌∙◌, ap, Bool, Some, if◌then◌else◌}
use Rattle.std.specs.BTreeMap.{get}
use Rattle.std.specs.Cmp.{unsigned_tied}
use Rattle.std.specs.Ordering.{nat_cmp}
use Rattle.grant_history.proofs.states.put.Goals as goal

pub returns : goal.returns
returns g c = λ i.
    c.in_ok-insert.ensures.updates.0 i
    ∙ ap (λ (b : Bool). if b then Some c.args.value else get nat_cmp c.args.map.now i) (unsigned_tied c.args.place i)
