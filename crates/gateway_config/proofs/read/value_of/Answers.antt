use Rattle.serde_json.specs.View.{view}
use Rattle.gateway_config.proofs.Bytes.{json-read, unread-named, never_true}
use Rattle.gateway_config.proofs.read.value_of.Goals as goal

pub returns-in-Ok-clause-ok : goal.returns-in-Ok-clause-ok
returns-in-Ok-clause-ok c = json-read c.args.bytes.now (view c.in-Ok.value) c.in-Ok.ensures.ok.0 c.in-Ok.ensures.ok.1

pub returns-else-is_memory-clause-fault : goal.returns-else-is_memory-clause-fault
returns-else-is_memory-clause-fault c =
    unread-named c.args.bytes.now c.refuse_at.result (c.in-Err.ensures.err (λ m. never_true (c.if-is_memory.ensures.1 m))) c.refuse_at.ensures
