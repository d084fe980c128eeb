use Rattle.std.proofs.Common.{Some, ap, ◌∙◌, String, Global}
use Rattle.std.specs.BTreeMap.{BTreeMap}
use Rattle.serde_json.specs.View.{view, members_view}
use Rattle.serde_json.specs.declared.value.Value.{Value}
use Rattle.gateway_config.specs.inner.Objects.{members_of}
use Rattle.gateway_config.proofs.Objects.{whole_read}
use Rattle.gateway_config.proofs.read.read_value.Goals as goal

pub returns-in-Some : goal.returns-in-Some
returns-in-Some c =
    whole_read (view c.args.value.now) (members_of c.new.result) c.new.result.path.now c.read_object.result
    (ap (λ (m : BTreeMap (String Global) Value). Some (members_view m.entries)) c.new.ensures.members ∙ (rw c.in-Some.is at c.as_object.ensures))
    c.new.ensures.path
    c.read_object.ensures
