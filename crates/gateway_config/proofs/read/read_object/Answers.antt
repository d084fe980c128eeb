use Rattle.std.proofs.Common.{[], ◌∷◌, rules}
use Rattle.gateway_config.proofs.Firsts.{both_parts, first_part, one_named, one_none, second_part}
use Rattle.gateway_config.specs.Faults.{config_members, unknown}
use Rattle.gateway_config.specs.inner.Objects.{known_tests, members_of}
use Rattle.gateway_config.proofs.read.read_object.Goals as goal

pub returns-in_err-config : goal.returns-in_err-config
returns-in_err-config c =
    let ms = members_of c.args.object.now in
    let path = c.args.object.now.path.now in
    let fault_is = first_part (known_tests path ms) (unknown path config_members ms ∷ []) c.in_err-config.field-0.0 c.in_err-config.ensures in
    search (rules, fault_is)

pub returns-in-Err : goal.returns-in-Err
returns-in-Err c =
    let ms = members_of c.args.object.now in
    let path = c.args.object.now.path.now in
    let fault_is = second_part (known_tests path ms) (unknown path config_members ms ∷ []) c.in-Err.fault c.in_ok-config.ensures.0 (one_named (unknown path config_members ms) c.in-Err.fault c.in-Err.ensures) in
    search (rules, fault_is)

pub returns-in-Ok : goal.returns-in-Ok
returns-in-Ok c =
    let ms = members_of c.args.object.now in
    let path = c.args.object.now.path.now in
    let none = both_parts (known_tests path ms) (unknown path config_members ms ∷ []) c.in_ok-config.ensures.0 (one_none (unknown path config_members ms) c.in-Ok.ensures.0) in
    search (rules, none)
