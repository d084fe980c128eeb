use Rattle.serde_json.specs.View.{view}
use Rattle.repl_messages.proofs.RowOffers.{body_found}
use Rattle.repl_messages.proofs.rows.offered.Goals as goal

pub returns-in-Some : goal.returns-in-Some
returns-in-Some c = body_found c.args.form c.args.body.now (view c.in-Some.value) c.offered_in.result (rw c.in-Some.is at c.in_ok-value.ensures) c.offered_in.ensures
