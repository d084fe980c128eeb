use Rattle.std.proofs.Common.{[], ◌∷◌, rules}
use Rattle.gateway_config.proofs.Firsts.{both_parts, first_part, one_named, one_none, second_part}
use Rattle.gateway_config.specs.Faults.{function_fault}
use Rattle.gateway_config.specs.inner.Objects.{members_of, setting_tests}
use Rattle.gateway_config.proofs.read.read_first.Goals as goal

pub returns-in_err-settings : goal.returns-in_err-settings
returns-in_err-settings c =
    let ms = members_of c.args.object.now in
    let path = c.args.object.now.path.now in
    let fault_is = first_part (setting_tests path ms) (function_fault path ms ∷ []) c.in_err-settings.field-0.0 c.in_err-settings.ensures in
    search (rules, fault_is)

pub returns-in-Err : goal.returns-in-Err
returns-in-Err c =
    let ms = members_of c.args.object.now in
    let path = c.args.object.now.path.now in
    let fault_is = second_part (setting_tests path ms) (function_fault path ms ∷ []) c.in-Err.fault c.in_ok-settings.ensures.0 (one_named (function_fault path ms) c.in-Err.fault c.in-Err.ensures) in
    search (rules, fault_is)

pub returns-in-Ok : goal.returns-in-Ok
returns-in-Ok c =
    let ms = members_of c.args.object.now in
    let path = c.args.object.now.path.now in
    let none = both_parts (setting_tests path ms) (function_fault path ms ∷ []) c.in_ok-settings.ensures.0 (one_none (function_fault path ms) c.in-Ok.ensures.0) in
    search (rules, none)
