use Rattle.std.proofs.Common.{◌∙◌, ap₂}
use Rattle.std.proofs.lemmas.Result.{IfOk-weaker}
use Rattle.clap.specs.Simple.{with_rule}
use Rattle.command_line.specs.CommandLines.{serve_app}
use Rattle.command_line.proofs.command_lines.serve_line.Goals as goal

pub returns : goal.returns
unfolding serve_app
returns c = IfOk-weaker c.arg.result _ _ (λ command added. added.shape c.needed.ensures.local ∙ ap₂ with_rule c.plain.ensures c.needed.ensures.rule) c.arg.ensures
