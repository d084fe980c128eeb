use Rattle.std.proofs.Common.{Some, ap, sym, ◌∙◌}
use Rattle.serde_json.specs.Written.{has_float, compact_text}
use Rattle.repl_messages.specs.Changes.{changes_data}
use Rattle.repl_messages.specs.Json.{json_of}
use Rattle.repl_messages.proofs.NoFloats.{changes_float}
use Rattle.repl_messages.proofs.ChangesRead.{changes_depth}
use Rattle.repl_messages.proofs.Replies.{json-read}
use Rattle.repl_messages.proofs.changes.changes_body.Goals as goal

pub returns-clause-text : goal.returns-clause-text
returns-clause-text c =
    c.from_vec.ensures
    ∙ c.in_ok-text.ensures.text (ap has_float c.in_ok-value.ensures ∙ changes_float c.args.version c.args.rows.now)
    ∙ ap compact_text c.in_ok-value.ensures

pub returns-clause-read : goal.returns-clause-read
returns-clause-read c =
    ap json_of c.from_vec.ensures
    ∙ sym (json-read c.in_ok-text.text.items (changes_data c.args.version c.args.rows.now) c.in_ok-text.ensures.utf8
    (c.in_ok-text.ensures.reads_back (rw c.in_ok-value.ensures (changes_depth c.args.version c.args.rows.now)) ∙ ap (λ d. Some d) c.in_ok-value.ensures))
