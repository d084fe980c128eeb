use Rattle.std.proofs.Common.{rules, Some, ap, ◌∙◌, String, Global}
use Rattle.std.specs.BTreeMap.{BTreeMap}
use Rattle.serde_json.specs.View.{view, members_view}
use Rattle.serde_json.specs.declared.value.Value.{Value}
use Rattle.gateway_config.specs.inner.Objects.{members_of}
use Rattle.gateway_config.specs.inner.Seen.{has}
use Rattle.gateway_config.proofs.Objects.{user_read}
use Rattle.gateway_config.proofs.user.read_user.Goals as goal

pub returns-in-Some-clause-read : goal.returns-in-Some-clause-read
returns-in-Some-clause-read c =
    user_read c.args.place (has c.args.names.now) (has c.args.sessions.now) (view c.args.value.now) (members_of c.new.result) c.new.result.path.now c.read_object.result
    (ap (λ (m : BTreeMap (String Global) Value). Some (members_view m.entries)) c.new.ensures.members ∙ (rw c.in-Some.is at c.as_object.ensures))
    (c.new.ensures.path ∙ c.as_str.ensures.value ∙ search (rules, c.in_ok-path.ensures.ok))
    c.read_object.ensures.read
