use Rattle.std.proofs.Common.{codes}
use Rattle.sync_meaning.specs.Builtins.{role_behind}
use Rattle.sync_meaning.proofs.Stripped.{stripped-is}
use Rattle.sync_meaning.proofs.arguments.role_in.Goals as goal

pub returns : goal.returns
unfolding role_behind
returns c = stripped-is (codes "role:") c.args.text.now c.strip_prefix.result c.strip_prefix.ensures.cases
