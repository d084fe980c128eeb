use Rattle.std.proofs.Common.{◌≤◌, arith}
use Rattle.grant_tracks.proofs.Named.{same_last, same_settled}
use Rattle.grant_tracks.proofs.Settling.{all_later, list_settled}
use Rattle.grant_tracks.proofs.Tracked.{later_list}
use Rattle.grant_tracks.proofs.changed.changed_in.Goals as goal

pub returns-clause-last : goal.returns-clause-last
returns-clause-last c =
    let own = c.changed.ensures.value in
    let others = c.changed_roles.ensures.last in
    let same = same_last c.args.roles.now c.roles.result.now.entries c.args.all.now.items c.roles.ensures in
    omega (arith, own, others, same, c.later.ensures)

pub returns-clause-settled : goal.returns-clause-settled
returns-clause-settled c = λ x.
    let roles = c.args.roles.now in
    let list = c.args.all.now.items in
    let own : c.changed.result ≤ c.later.result = omega (arith, c.later.ensures) in
    let others : c.changed_roles.result ≤ c.later.result = omega (arith, c.later.ensures) in
    let settled = same_settled roles c.roles.result.now.entries list c.roles.ensures c.changed_roles.result c.changed_roles.ensures.settled in
    list_settled roles list c.later.result x (later_list list c.changed.result c.later.result own c.changed.ensures.up_to)
    (all_later roles list c.changed_roles.result c.later.result others settled)
