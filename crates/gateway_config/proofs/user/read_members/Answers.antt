use Rattle.std.proofs.Common.{rules}
use Rattle.gateway_config.proofs.Firsts.{both_parts, first_part, second_part}
use Rattle.gateway_config.specs.inner.Objects.{further_tests, holder_tests, members_of}
use Rattle.gateway_config.specs.inner.Seen.{has}
use Rattle.gateway_config.proofs.user.read_members.Goals as goal

pub returns-in_err-holder-clause-read : goal.returns-in_err-holder-clause-read
returns-in_err-holder-clause-read c =
    let ms = members_of c.args.object.now in
    let path = c.args.object.now.path.now in
    let had = has c.args.names.now in
    let held = has c.args.sessions.now in
    let fault_is = first_part (holder_tests path had ms) (further_tests path held ms) c.in_err-holder.field-0.0 c.in_err-holder.ensures.read in
    search (rules, fault_is)

pub returns-in-Err-clause-read : goal.returns-in-Err-clause-read
returns-in-Err-clause-read c =
    let ms = members_of c.args.object.now in
    let path = c.args.object.now.path.now in
    let had = has c.args.names.now in
    let held = has c.args.sessions.now in
    let fault_is = second_part (holder_tests path had ms) (further_tests path held ms) c.in-Err.fault c.in_ok-holder.ensures.read.0 c.in-Err.ensures.read in
    search (rules, fault_is)

pub returns-clause-read : goal.returns-clause-read
returns-clause-read c =
    let ms = members_of c.args.object.now in
    let path = c.args.object.now.path.now in
    let had = has c.args.names.now in
    let held = has c.args.sessions.now in
    let none = both_parts (holder_tests path had ms) (further_tests path held ms) c.in_ok-holder.ensures.read.0 c.in-Ok.ensures.read.0 in
    search (rules, none)
