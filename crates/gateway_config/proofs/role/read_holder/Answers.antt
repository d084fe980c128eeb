use Rattle.std.proofs.Common.{[], ◌∷◌, rules}
use Rattle.gateway_config.proofs.Firsts.{both_parts, first_part, one_named, one_none, second_part}
use Rattle.gateway_config.specs.Faults.{channels_fault, name_fault}
use Rattle.gateway_config.specs.inner.Objects.{members_of}
use Rattle.gateway_config.specs.inner.Seen.{has}
use Rattle.gateway_config.proofs.role.read_holder.Goals as goal

pub returns-in_err-name-clause-read : goal.returns-in_err-name-clause-read
returns-in_err-name-clause-read c =
    let ms = members_of c.args.object.now in
    let path = c.args.object.now.path.now in
    let had = has c.args.seen.now in
    let fault_is = first_part (name_fault path had ms ∷ []) (channels_fault path ms ∷ []) c.in_err-name.field-0.0 (one_named (name_fault path had ms) c.in_err-name.field-0.0 c.in_err-name.ensures.read) in
    search (rules, fault_is)

pub returns-in_err-channels-clause-read : goal.returns-in_err-channels-clause-read
returns-in_err-channels-clause-read c =
    let ms = members_of c.args.object.now in
    let path = c.args.object.now.path.now in
    let had = has c.args.seen.now in
    let fault_is = second_part (name_fault path had ms ∷ []) (channels_fault path ms ∷ []) c.in_err-channels.field-0.0 (one_none (name_fault path had ms) c.in_ok-name.ensures.read.0) (one_named (channels_fault path ms) c.in_err-channels.field-0.0 c.in_err-channels.ensures) in
    search (rules, fault_is)

pub returns-clause-read : goal.returns-clause-read
returns-clause-read c =
    let ms = members_of c.args.object.now in
    let path = c.args.object.now.path.now in
    let had = has c.args.seen.now in
    let none = both_parts (name_fault path had ms ∷ []) (channels_fault path ms ∷ []) (one_none (name_fault path had ms) c.in_ok-name.ensures.read.0) (one_none (channels_fault path ms) c.in_ok-channels.ensures.0) in
    search (rules, none)
