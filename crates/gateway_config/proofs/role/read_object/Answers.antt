use Rattle.std.proofs.Common.{[], ◌∷◌, rules}
use Rattle.gateway_config.proofs.Firsts.{both_parts, first_part, one_named, one_none, second_part}
use Rattle.gateway_config.specs.Faults.{role_members, unknown}
use Rattle.gateway_config.specs.inner.Objects.{holder_tests, members_of}
use Rattle.gateway_config.specs.inner.Seen.{has}
use Rattle.gateway_config.proofs.role.read_object.Goals as goal

pub returns-in_err-role-clause-read : goal.returns-in_err-role-clause-read
returns-in_err-role-clause-read c =
    let ms = members_of c.args.object.now in
    let path = c.args.object.now.path.now in
    let had = has c.args.seen.now in
    let fault_is = first_part (holder_tests path had ms) (unknown path role_members ms ∷ []) c.in_err-role.field-0.0 c.in_err-role.ensures.read in
    search (rules, fault_is)

pub returns-in-Err-clause-read : goal.returns-in-Err-clause-read
returns-in-Err-clause-read c =
    let ms = members_of c.args.object.now in
    let path = c.args.object.now.path.now in
    let had = has c.args.seen.now in
    let fault_is = second_part (holder_tests path had ms) (unknown path role_members ms ∷ []) c.in-Err.fault c.in_ok-role.ensures.read.0 (one_named (unknown path role_members ms) c.in-Err.fault c.in-Err.ensures) in
    search (rules, fault_is)

pub returns-in-Ok-clause-read : goal.returns-in-Ok-clause-read
returns-in-Ok-clause-read c =
    let ms = members_of c.args.object.now in
    let path = c.args.object.now.path.now in
    let had = has c.args.seen.now in
    let none = both_parts (holder_tests path had ms) (unknown path role_members ms ∷ []) c.in_ok-role.ensures.read.0 (one_none (unknown path role_members ms) c.in-Ok.ensures.0) in
    search (rules, none)
