use Rattle.std.proofs.Common.{◌≡◌, ◌∙◌, ap₂, codes}
use Rattle.std.proofs.lemmas.Result.{IfOk-weaker}
use Rattle.clap.specs.Simple.{app_of, with_rule}
use Rattle.command_line.specs.CommandLines.{needed, plain_app, replay_app}
use Rattle.command_line.proofs.command_lines.replay_line.Goals as goal

pub returns : goal.returns
unfolding replay_app
returns c =
    let config : app_of c.in_ok-arg.field-0 ≡ with_rule (plain_app (codes "replay")) (needed (codes "config")) =
    c.in_ok-arg.ensures.shape c.needed.ensures.local ∙ ap₂ with_rule c.plain.ensures c.needed.ensures.rule in
    let admin = c.in_ok-arg-2.ensures.shape c.needed-2.ensures.local ∙ ap₂ with_rule config c.needed-2.ensures.rule in
    IfOk-weaker c.arg-3.result _ _ (λ command added. added.shape c.several.ensures.local ∙ ap₂ with_rule admin c.several.ensures.rule) c.arg-3.ensures
