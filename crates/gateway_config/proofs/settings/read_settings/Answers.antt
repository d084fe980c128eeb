use Rattle.std.proofs.Common.{rules}
use Rattle.gateway_config.proofs.Firsts.{both_parts, first_part, second_part}
use Rattle.gateway_config.specs.inner.Objects.{limit_tests, members_of, text_tests}
use Rattle.gateway_config.proofs.settings.read_settings.Goals as goal

pub returns-in_err-database : goal.returns-in_err-database
returns-in_err-database c =
    let ms = members_of c.args.object.now in
    let path = c.args.object.now.path.now in
    let fault_is = first_part (text_tests path ms) (limit_tests path ms) c.in_err-database.field-0.0 c.in_err-database.ensures in
    search (rules, fault_is)

pub returns-in_err-accepts : goal.returns-in_err-accepts
returns-in_err-accepts c =
    let ms = members_of c.args.object.now in
    let path = c.args.object.now.path.now in
    let fault_is = second_part (text_tests path ms) (limit_tests path ms) c.in_err-accepts.field-0.0 c.in_ok-database.ensures.0 c.in_err-accepts.ensures in
    search (rules, fault_is)

pub returns : goal.returns
returns c =
    let ms = members_of c.args.object.now in
    let path = c.args.object.now.path.now in
    let none = both_parts (text_tests path ms) (limit_tests path ms) c.in_ok-database.ensures.0 c.in_ok-accepts.ensures.0 in
    search (rules, none)
