use Rattle.std.proofs.Common.{◌∙◌, ap}
use Rattle.sync_meaning.specs.inner.Arguments.{texts}
use Rattle.sync_meaning.specs.Builtins.{share_one}
use Rattle.sync_meaning.proofs.Calls.{role_passes}
use Rattle.sync_meaning.proofs.state.Context.passes_role.Goals as goal

pub returns-in-Some : goal.returns-in-Some
returns-in-Some c =
    role_passes c.args.self.now c.in-Some.field-0 (texts c.args.roles.now) c.shares_name.result c.in-Some.is
    (c.shares_name.ensures ∙ ap (λ l. share_one l (texts c.args.roles.now)) c.as_slice.ensures)
