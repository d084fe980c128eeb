use Rattle.std.proofs.Common.{List, ◌∷◌, ap, ◌∙◌}
use Rattle.serde_json.specs.Data.{Data, array, string}
use Rattle.serde_json.specs.View.{items_of}
use Rattle.repl_messages.specs.Changes.{mark}
use Rattle.repl_messages.proofs.Mapped.{three_pushed}
use Rattle.repl_messages.proofs.changes.row_value.Goals as goal

pub returns : goal.returns
returns c =
    let marks = mark c.args.version c.args.row.now.bits in
    let pushed =
    three_pushed c.new-items.result.items c.push.new.self.items c.push-2.new.self.items c.push-3.new.self.items c.push_mark.new.items.items
    c.in_ok-sequence_value.field-0 c.from.result c.from-2.result marks c.new-items.ensures.items c.in_ok-push.ensures.items c.in_ok-push-2.ensures.items
    c.in_ok-push-3.ensures.items c.in_ok-push_mark.ensures
    in
    let sequence = c.in_ok-sequence_value.ensures in
    let doc = c.from.ensures ∙ ap string (c.in_ok-from_str.ensures.ok ∙ c.as_str.ensures.value) in
    let rev = c.from-2.ensures ∙ ap string c.in_ok-rev_string.ensures in
    c.from-3.ensures ∙ ap (λ (ds : List Data). array (items_of ds)) (pushed ∙ (λ i. sequence i ∷ doc i ∷ rev i ∷ marks))
