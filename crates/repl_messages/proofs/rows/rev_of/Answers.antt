use Rattle.std.proofs.Common.{ap, Err, ◌∙◌}
use Rattle.serde_json.specs.View.{view}
use Rattle.repl_messages.proofs.RowOffers.{rev_named, no_rev}
use Rattle.repl_messages.proofs.rows.rev_of.Goals as goal

pub returns-in-Ok : goal.returns-in-Ok
returns-in-Ok c = rev_named (view c.args.item.now) c.in-Some.text.now c.in-Ok.rev c.in-Some.ensures c.in-Ok.ensures.ok

pub returns-in-Err-Bad : goal.returns-in-Err-Bad
returns-in-Err-Bad c =
    no_rev (view c.args.item.now) c.in-Some.text.now c.in-Some.ensures (c.parse.ensures.bad (c.in-Err-Bad.is ∙ ap Err c.in-Err-Bad.field-0-is))
