use Rattle.std.proofs.Common.{arith}
use Rattle.sg_history.proofs.FaultLemmas.{many_fields, one_field}
use Rattle.principals.specs.Faults.{IsScriptField, script_parts}
use Rattle.principals.proofs.line.fault_of_many.Goals as goal

pub returns-in-Some : goal.returns-in-Some
returns-in-Some c =
    let cut = c.in-Some.ensures.some in
    many_fields IsScriptField script_parts 4 c.args.line.now c.in-Some.kind.now _ c.fault_of_kind.result cut.0 cut.1 c.requires c.fault_of_kind.ensures

pub returns-in-None : goal.returns-in-None
returns-in-None c = absurd (one_field c.args.line.now 5 c.in-None.ensures.none (omega arith) c.requires)
