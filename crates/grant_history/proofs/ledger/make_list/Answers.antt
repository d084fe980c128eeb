use Rattle.std.proofs.Common.{◌∙◌, ap}
use Rattle.std.specs.Prelude.{is_some}
use Rattle.grant_history.specs.Ledger.{facts_of_list}
use Rattle.grant_history.proofs.Keeping.{placed_empty, placed_there}
use Rattle.grant_tracks.proofs.Tracked.{either, on_ok, on_err}
use Rattle.grant_history.proofs.ledger.make_list.Goals as goal

pub returns-clause-lists : goal.returns-clause-lists
returns-clause-lists c = either c.put.result _
    (on_ok c.put.result _ _ (λ sets. placed_empty c.args.lists.now c.put.new.map c.args.name.now c.no_facts.result c.no_facts.ensures c.requires sets) c.put.ensures.ok)
    (on_err c.put.result _ _ (λ same other. ap facts_of_list (same other)) c.put.ensures.err)

pub returns-clause-kept : goal.returns-clause-kept
returns-clause-kept c = either c.put.result _
    (on_ok c.put.result _ _ (λ sets other had. ap is_some (sets other) ∙ placed_there _ _ _ had) c.put.ensures.ok)
    (on_err c.put.result _ _ (λ same other had. ap is_some (same other) ∙ had) c.put.ensures.err)
