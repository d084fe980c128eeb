use Rattle.std.proofs.Common.{ap, ◌∙◌}
use Rattle.std.specs.Str.{bytes_eq}
use Rattle.ws_door.proofs.Chains.{target_by}
use Rattle.ws_door.proofs.asked.is_target.Goals as goal

pub returns-in-Some-behind : goal.returns-in-Some-behind
returns-in-Some-behind c =
    target_by c.args.target.now c.in-Some.path.now c.args.database.now c.in-Some-behind.rest.now c.eq.result c.in-Some.ensures c.in-Some-behind.ensures
    (c.eq.ensures ∙ ap (bytes_eq c.in-Some-behind.rest.now) c.as_slice.ensures)
