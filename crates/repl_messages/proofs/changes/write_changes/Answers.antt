use Rattle.std.specs.Prelude.{codes}
use Rattle.std.proofs.Common.{List, [], ◌∷◌, ◌++◌, ap, ◌∙◌}
use Rattle.blip_frame.specs.Props.{pairs_of}
use Rattle.blip_frame.specs.declared.props.Prop.{Prop}
use Rattle.repl_messages.proofs.ChangesRead.{offered}
use Rattle.repl_messages.proofs.changes.write_changes.Goals as goal

pub returns-clause-read : goal.returns-clause-read
returns-clause-read c =
    offered c.from_vec.result c.in_ok-changes_body.field-0 c.args.version c.args.rows.now
    (c.from_vec.ensures ∙ c.in_ok-push_text.ensures ∙ ap (λ (props : List Prop). pairs_of props ++ ((codes "Profile", codes "changes") ∷ [])) c.new-props.ensures.items)
    c.in_ok-changes_body.ensures.read
