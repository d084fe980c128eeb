use Rattle.std.proofs.Common.{◌≡◌, ◌∙◌, ap₂, codes}
use Rattle.std.proofs.lemmas.Result.{IfOk-weaker}
use Rattle.clap.specs.Simple.{app_of, with_rule}
use Rattle.command_line.specs.CommandLines.{feed_app, flag, plain_app}
use Rattle.command_line.proofs.command_lines.feed_line.Goals as goal

pub returns : goal.returns
unfolding feed_app
returns c =
    let active : app_of c.in_ok-arg.field-0 ≡ with_rule (plain_app (codes "feed")) (flag (codes "active-only")) =
    c.in_ok-arg.ensures.shape c.flag.ensures.local ∙ ap₂ with_rule c.plain.ensures c.flag.ensures.rule in
    let second = c.in_ok-arg-2.ensures.shape c.flag-2.ensures.local ∙ ap₂ with_rule active c.flag-2.ensures.rule in
    let third = c.in_ok-arg-3.ensures.shape c.option.ensures.local ∙ ap₂ with_rule second c.option.ensures.rule in
    let fourth = c.in_ok-arg-4.ensures.shape c.needed.ensures.local ∙ ap₂ with_rule third c.needed.ensures.rule in
    let fifth = c.in_ok-arg-5.ensures.shape c.needed-2.ensures.local ∙ ap₂ with_rule fourth c.needed-2.ensures.rule in
    IfOk-weaker c.arg-6.result _ _ (λ command added. added.shape c.needed-3.ensures.local ∙ ap₂ with_rule fifth c.needed-3.ensures.rule) c.arg-6.ensures
