use Rattle.std.proofs.Common.{◌∙◌, sym}
use Rattle.channel_cache.proofs.Brought.{forward_none}
use Rattle.channel_cache.proofs.forward.bring_any.Goals as goal

pub returns-then-is_empty-clause-ok : goal.returns-then-is_empty-clause-ok
returns-then-is_empty-clause-ok c = forward_none c.args.log.now.entries c.args.from c.args.to c.args.lists.now.entries (sym c.is_empty.ensures ∙ c.if-is_empty.true)
