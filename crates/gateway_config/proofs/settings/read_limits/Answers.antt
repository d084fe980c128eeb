use Rattle.std.proofs.Common.{[], ◌∷◌, rules}
use Rattle.gateway_config.proofs.Firsts.{both_parts, first_part, one_named, one_none, second_part}
use Rattle.gateway_config.specs.Faults.{accepts_fault, conflicts_fault}
use Rattle.gateway_config.specs.inner.Objects.{members_of}
use Rattle.gateway_config.proofs.settings.read_limits.Goals as goal

pub returns-in_err-accepts : goal.returns-in_err-accepts
returns-in_err-accepts c =
    let ms = members_of c.args.object.now in
    let path = c.args.object.now.path.now in
    let fault_is = first_part (accepts_fault path ms ∷ []) (conflicts_fault path ms ∷ []) c.in_err-accepts.field-0.0 (one_named (accepts_fault path ms) c.in_err-accepts.field-0.0 c.in_err-accepts.ensures) in
    search (rules, fault_is)

pub returns-in_err-conflicts : goal.returns-in_err-conflicts
returns-in_err-conflicts c =
    let ms = members_of c.args.object.now in
    let path = c.args.object.now.path.now in
    let fault_is = second_part (accepts_fault path ms ∷ []) (conflicts_fault path ms ∷ []) c.in_err-conflicts.field-0.0 (one_none (accepts_fault path ms) c.in_ok-accepts.ensures.0) (one_named (conflicts_fault path ms) c.in_err-conflicts.field-0.0 c.in_err-conflicts.ensures) in
    search (rules, fault_is)

pub returns : goal.returns
returns c =
    let ms = members_of c.args.object.now in
    let path = c.args.object.now.path.now in
    let none = both_parts (accepts_fault path ms ∷ []) (conflicts_fault path ms ∷ []) (one_none (accepts_fault path ms) c.in_ok-accepts.ensures.0) (one_none (conflicts_fault path ms) c.in_ok-conflicts.ensures.0) in
    search (rules, none)
