use Rattle.serde_json.specs.View.{view}
use Rattle.repl_messages.proofs.Replies.{json-read, json-unread, never_true}
use Rattle.repl_messages.proofs.json_body.value_of.Goals as goal

pub returns-in-Ok : goal.returns-in-Ok
returns-in-Ok c = json-read c.args.bytes.now (view c.in-Ok.value) c.in-Ok.ensures.ok.0 c.in-Ok.ensures.ok.1

pub returns-else-is_memory : goal.returns-else-is_memory
returns-else-is_memory c = json-unread c.args.bytes.now (c.in-Err.ensures.err (λ m. never_true (c.if-is_memory.ensures.1 m)))
