use Rattle.std.proofs.Common.{ap, ◌∙◌}
use Rattle.serde_json.specs.Written.{has_float, compact_text}
use Rattle.repl_messages.proofs.NoFloats.{answers_float}
use Rattle.repl_messages.proofs.answers.answers_body.Goals as goal

pub returns : goal.returns
returns c =
    c.from_vec.ensures
    ∙ c.in_ok-text.ensures.text (ap has_float c.in_ok-value.ensures ∙ answers_float c.args.proposed c.args.answers.now)
    ∙ ap compact_text c.in_ok-value.ensures
