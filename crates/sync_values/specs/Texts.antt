-- What a rule is printed as.
use Rattle.std.specs.Prelude.{ℕ, List, [], ◌++◌, codes, decimal}
use Rattle.sync_tokens.specs.declared.place.Place.{Place}
use Rattle.sync_values.specs.declared.fault.FaultKind.{FaultKind}
use Rattle.sync_values.specs.declared.fault.FaultKind.TheVariants as faults
use Rattle.sync_values.specs.declared.fault.RuleKind.{RuleKind}
use Rattle.sync_values.specs.declared.fault.RuleKind.TheVariants as rules
use Rattle.sync_values.specs.declared.fault.Rule.{Rule}

-- the name of a kind of fault
abbrev pub fault_name : FaultKind → List ℕ
fault_name faults.TypeFault = codes "type"
fault_name faults.NullMember = codes "null member"
fault_name faults.Range = codes "range"
fault_name faults.Argument = codes "argument"
fault_name faults.BadName = codes "bad name"
fault_name faults.Size = codes "size"
fault_name faults.Thrown = codes "thrown"

-- the name of a kind of rule
abbrev pub rule_name : RuleKind → List ℕ
rule_name (rules.Forbidden s) = codes "forbidden"
rule_name rules.User = codes "user"
rule_name rules.Role = codes "role"
rule_name rules.Access = codes "access"
rule_name rules.Admin = codes "admin"
rule_name (rules.Fault kind) = fault_name kind
rule_name rules.Fuel = codes "fuel"

-- a line and a column
abbrev pub place_text : Place → List ℕ
place_text p = decimal p.line ++ codes ":" ++ decimal p.column

-- what was thrown
abbrev pub thrown_text : RuleKind → List ℕ
thrown_text (rules.Forbidden s) = codes ": " ++ s
thrown_text _ = []

-- the rule's name and place, and behind `forbidden` the text that was thrown
abbrev pub rule_text : Rule → List ℕ
rule_text r = rule_name r.kind ++ codes " at " ++ place_text r.place ++ thrown_text r.kind
