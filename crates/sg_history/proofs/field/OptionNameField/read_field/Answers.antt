use Rattle.std.proofs.Common.{Some, sym, ◌∙◌}
use Rattle.sg_history.proofs.field.OptionNameField.read_field.Goals as goal

pub returns-clause-text : goal.returns-clause-text
returns-clause-text c =
    let text = c.in_ok-text.ensures.ok in
    let read = c.in_ok-parse.ensures.ok in
    (text.1, Some c.in_ok-parse.field-0, rw read.0 read.1, sym (read.0 ∙ text.0))
