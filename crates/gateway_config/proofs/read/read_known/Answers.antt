use Rattle.std.proofs.Common.{rules}
use Rattle.gateway_config.proofs.Firsts.{both_parts, first_part, second_part}
use Rattle.gateway_config.specs.inner.Objects.{first_tests, members_of, principal_tests}
use Rattle.gateway_config.proofs.read.read_known.Goals as goal

pub returns-in_err-first : goal.returns-in_err-first
returns-in_err-first c =
    let ms = members_of c.args.object.now in
    let path = c.args.object.now.path.now in
    let fault_is = first_part (first_tests path ms) (principal_tests path ms) c.in_err-first.field-0.0 c.in_err-first.ensures in
    search (rules, fault_is)

pub returns-in-Err : goal.returns-in-Err
returns-in-Err c =
    let ms = members_of c.args.object.now in
    let path = c.args.object.now.path.now in
    let fault_is = second_part (first_tests path ms) (principal_tests path ms) c.in-Err.fault c.in_ok-first.ensures.0 c.in-Err.ensures in
    search (rules, fault_is)

pub returns : goal.returns
returns c =
    let ms = members_of c.args.object.now in
    let path = c.args.object.now.path.now in
    let none = both_parts (first_tests path ms) (principal_tests path ms) c.in_ok-first.ensures.0 c.in-Ok.ensures.0 in
    search (rules, none)
