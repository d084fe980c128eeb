use Rattle.std.proofs.Common.{[], ◌∷◌, rules}
use Rattle.gateway_config.proofs.Firsts.{both_parts, first_part, one_named, one_none, second_part}
use Rattle.gateway_config.specs.Faults.{unknown, user_members}
use Rattle.gateway_config.specs.inner.Objects.{members_of, user_tests}
use Rattle.gateway_config.specs.inner.Seen.{has}
use Rattle.gateway_config.proofs.user.read_object.Goals as goal

pub returns-in_err-user-clause-read : goal.returns-in_err-user-clause-read
returns-in_err-user-clause-read c =
    let ms = members_of c.args.object.now in
    let path = c.args.object.now.path.now in
    let had = has c.args.names.now in
    let held = has c.args.sessions.now in
    let fault_is = first_part (user_tests path had held ms) (unknown path user_members ms ∷ []) c.in_err-user.field-0.0 c.in_err-user.ensures.read in
    search (rules, fault_is)

pub returns-in-Err-clause-read : goal.returns-in-Err-clause-read
returns-in-Err-clause-read c =
    let ms = members_of c.args.object.now in
    let path = c.args.object.now.path.now in
    let had = has c.args.names.now in
    let held = has c.args.sessions.now in
    let fault_is = second_part (user_tests path had held ms) (unknown path user_members ms ∷ []) c.in-Err.fault c.in_ok-user.ensures.read.0 (one_named (unknown path user_members ms) c.in-Err.fault c.in-Err.ensures) in
    search (rules, fault_is)

pub returns-in-Ok-clause-read : goal.returns-in-Ok-clause-read
returns-in-Ok-clause-read c =
    let ms = members_of c.args.object.now in
    let path = c.args.object.now.path.now in
    let had = has c.args.names.now in
    let held = has c.args.sessions.now in
    let none = both_parts (user_tests path had held ms) (unknown path user_members ms ∷ []) c.in_ok-user.ensures.read.0 (one_none (unknown path user_members ms) c.in-Ok.ensures.0) in
    search (rules, none)
