use Rattle.std.proofs.Common.{[], ◌∷◌, rules}
use Rattle.gateway_config.proofs.Firsts.{both_parts, first_part, one_named, one_none, second_part}
use Rattle.gateway_config.specs.Faults.{names_fault, session_fault}
use Rattle.gateway_config.specs.inner.Objects.{members_of}
use Rattle.gateway_config.specs.inner.Seen.{has}
use Rattle.gateway_config.proofs.user.read_further.Goals as goal

pub returns-in_err-roles-clause-read : goal.returns-in_err-roles-clause-read
returns-in_err-roles-clause-read c =
    let ms = members_of c.args.object.now in
    let path = c.args.object.now.path.now in
    let had = has c.args.seen.now in
    let fault_is = first_part (names_fault path ms ∷ []) (session_fault path had ms ∷ []) c.in_err-roles.field-0.0 (one_named (names_fault path ms) c.in_err-roles.field-0.0 c.in_err-roles.ensures) in
    search (rules, fault_is)

pub returns-in_err-session-clause-read : goal.returns-in_err-session-clause-read
returns-in_err-session-clause-read c =
    let ms = members_of c.args.object.now in
    let path = c.args.object.now.path.now in
    let had = has c.args.seen.now in
    let fault_is = second_part (names_fault path ms ∷ []) (session_fault path had ms ∷ []) c.in_err-session.field-0.0 (one_none (names_fault path ms) c.in_ok-roles.ensures.0) (one_named (session_fault path had ms) c.in_err-session.field-0.0 c.in_err-session.ensures.read) in
    search (rules, fault_is)

pub returns-clause-read : goal.returns-clause-read
returns-clause-read c =
    let ms = members_of c.args.object.now in
    let path = c.args.object.now.path.now in
    let had = has c.args.seen.now in
    let none = both_parts (names_fault path ms ∷ []) (session_fault path had ms ∷ []) (one_none (names_fault path ms) c.in_ok-roles.ensures.0) (one_none (session_fault path had ms) c.in_ok-session.ensures.read.0) in
    search (rules, none)
