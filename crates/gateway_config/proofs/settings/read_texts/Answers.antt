use Rattle.std.proofs.Common.{[], ◌∷◌, rules}
use Rattle.gateway_config.proofs.Firsts.{both_parts, first_part, one_named, one_none, second_part}
use Rattle.gateway_config.specs.Faults.{bind_fault, database_fault}
use Rattle.gateway_config.specs.inner.Objects.{members_of}
use Rattle.gateway_config.proofs.settings.read_texts.Goals as goal

pub returns-in_err-database : goal.returns-in_err-database
returns-in_err-database c =
    let ms = members_of c.args.object.now in
    let path = c.args.object.now.path.now in
    let fault_is = first_part (database_fault path ms ∷ []) (bind_fault path ms ∷ []) c.in_err-database.field-0.0 (one_named (database_fault path ms) c.in_err-database.field-0.0 c.in_err-database.ensures) in
    search (rules, fault_is)

pub returns-in_err-bind : goal.returns-in_err-bind
returns-in_err-bind c =
    let ms = members_of c.args.object.now in
    let path = c.args.object.now.path.now in
    let fault_is = second_part (database_fault path ms ∷ []) (bind_fault path ms ∷ []) c.in_err-bind.field-0.0 (one_none (database_fault path ms) c.in_ok-database.ensures.0) (one_named (bind_fault path ms) c.in_err-bind.field-0.0 c.in_err-bind.ensures) in
    search (rules, fault_is)

pub returns : goal.returns
returns c =
    let ms = members_of c.args.object.now in
    let path = c.args.object.now.path.now in
    let none = both_parts (database_fault path ms ∷ []) (bind_fault path ms ∷ []) (one_none (database_fault path ms) c.in_ok-database.ensures.0) (one_none (bind_fault path ms) c.in_ok-bind.ensures.0) in
    search (rules, none)
