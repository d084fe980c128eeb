use Rattle.std.proofs.Common.{◌∙◌, ◌-◌, sym, ap, subst, List}
use Rattle.sg_history.specs.declared.entries.Entry.{Entry}
use Rattle.sg_history.specs.declared.entries.Mark.{Mark}
use Rattle.sg_history.specs.History.{past, as_write}
use Rattle.sg_history.specs.Current.{current}
use Rattle.sg_history.specs.Principals.{as_put}
use Rattle.grant_history.specs.declared.facts.Fact.{Fact}
use Rattle.grant_history.specs.inner.Changes.{IsMarking}
use Rattle.grant_history.specs.Facts.{document_facts}
use Rattle.grant_history.specs.Ledger.{document, IsStep}
use Rattle.grant_history.specs.NewStates.{by_marks}
use Rattle.grant_tracks.proofs.Tracked.{on_ok, on_err}
use Rattle.grant_history.proofs.Keeping.{same_step, write_is_step}
use Rattle.grant_history.proofs.Applied.{gave_next, no_sync, no_write, marking_next, next_place, taken, left}
use Rattle.grant_history.proofs.history.take_entry.Goals as goal

pub take-requires : goal.take-requires
take-requires c =
    let e = c.args.entry.now in
    let entries = c.args.log.now.entries in
    let index = c.args.index.now in
    let ledger = c.args.ledger.now in
    let es = past entries (c.args.at - 1) in
    let w = c.in-Write.write in
    let step = write_is_step c.currents.ensures.unwritten ledger e es c.args.at (next_place index ledger entries e c.args.at c.requires) c.requires.kept.is_kept w (ap as_write c.in-Write.is) (ap as_put c.in-Write.is) in
    let now = c.in_ok-facts-in-Write.ensures.facts c.args.at c.requires.high c.requires.index ∙ ap (λ (l : List Entry). document_facts (current l w.doc)) c.requires.newest in
    (e, es, subst (λ (fs : List Fact). IsStep ledger c.args.at (document w.doc) fs e es) (sym now) step)

pub returns-in_ok-facts-in-Write-clause-ok : goal.returns-in_ok-facts-in-Write-clause-ok
returns-in_ok-facts-in-Write-clause-ok c =
    let e = c.args.entry.now in
    let entries = c.args.log.now.entries in
    let index = c.args.index.now in
    let ledger = c.args.ledger.now in
    let es = past entries (c.args.at - 1) in
    let w = c.in-Write.write in
    let step = write_is_step c.currents.ensures.unwritten ledger e es c.args.at (next_place index ledger entries e c.args.at c.requires) c.requires.kept.is_kept w (ap as_write c.in-Write.is) (ap as_put c.in-Write.is) in
    let now = c.in_ok-facts-in-Write.ensures.facts c.args.at c.requires.high c.requires.index ∙ ap (λ (l : List Entry). document_facts (current l w.doc)) c.requires.newest in
    on_ok c.take.result _ _ (λ takes. taken index ledger entries e c.args.at c.requires c.take.new.self c.take.ensures.before (takes e es (subst (λ (fs : List Fact). IsStep ledger c.args.at (document w.doc) fs e es) (sym now) step))) c.take.ensures.ok

pub returns-in_ok-facts-in-Write-clause-err : goal.returns-in_ok-facts-in-Write-clause-err
returns-in_ok-facts-in-Write-clause-err c =
    let e = c.args.entry.now in
    let entries = c.args.log.now.entries in
    let index = c.args.index.now in
    let ledger = c.args.ledger.now in
    on_err c.take.result _ _ (λ kept. left index ledger entries e c.args.at c.requires c.take.new.self c.take.ensures.before (kept (past entries (c.args.at - 1)) (next_place index ledger entries e c.args.at c.requires) c.requires.kept.is_kept)) c.take.ensures.err

pub returns-in_default-clause-ok : goal.returns-in_default-clause-ok
returns-in_default-clause-ok c =
    let e = c.args.entry.now in
    let entries = c.args.log.now.entries in
    let index = c.args.index.now in
    let ledger = c.args.ledger.now in
    on_ok c.take_put.result _ _ (λ takes. taken index ledger entries e c.args.at c.requires c.take_put.new.self c.take_put.ensures.before (takes (past entries (c.args.at - 1)) (next_place index ledger entries e c.args.at c.requires) c.requires.kept.is_kept)) c.take_put.ensures.ok

pub returns-in_default-clause-err : goal.returns-in_default-clause-err
returns-in_default-clause-err c =
    let e = c.args.entry.now in
    let entries = c.args.log.now.entries in
    let index = c.args.index.now in
    let ledger = c.args.ledger.now in
    on_err c.take_put.result _ _ (λ kept. left index ledger entries e c.args.at c.requires c.take_put.new.self c.take_put.ensures.before (kept (past entries (c.args.at - 1)) (next_place index ledger entries e c.args.at c.requires) c.requires.kept.is_kept)) c.take_put.ensures.err

pub take_put-requires : goal.take_put-requires
take_put-requires c = record {
  before = record {
    es = past c.args.log.now.entries (c.args.at - 1);
    place = next_place c.args.index.now c.args.ledger.now c.args.log.now.entries c.args.entry.now c.args.at c.requires;
    is_kept = c.requires.kept.is_kept;
  };
  no_write = no_write c.args.entry.now c.in_default.not-Write;
  no_sync = no_sync c.args.entry.now c.in_default.not-Sync;
}

pub take_replacement-requires : goal.take_replacement-requires
take_replacement-requires c =
    let e = c.args.entry.now in
    let index = c.args.index.now in
    let ledger = c.args.ledger.now in
    let es = past c.args.log.now.entries (c.args.at - 1) in
    (e, es, subst (λ (marks : List Mark). IsMarking ledger c.args.at marks (by_marks index marks 0) e es) (sym c.as_slice.ensures) (marking_next index ledger c.args.log.now.entries e c.args.at c.requires _ _ c.in-Sync.is))

pub returns-in-Sync-clause-ok : goal.returns-in-Sync-clause-ok
returns-in-Sync-clause-ok c =
    let e = c.args.entry.now in
    let entries = c.args.log.now.entries in
    let index = c.args.index.now in
    let ledger = c.args.ledger.now in
    let es = past entries (c.args.at - 1) in
    on_ok c.take_replacement.result _ _ (λ takes. taken index ledger entries e c.args.at c.requires c.take_replacement.new.ledger c.take_replacement.ensures.before (takes e es
    (subst (λ (marks : List Mark). IsMarking ledger c.args.at marks (by_marks index marks 0) e es) (sym c.as_slice.ensures) (marking_next index ledger entries e c.args.at c.requires _ _ c.in-Sync.is)))) c.take_replacement.ensures.ok

pub returns-in-Sync-clause-err : goal.returns-in-Sync-clause-err
returns-in-Sync-clause-err c =
    let e = c.args.entry.now in
    let entries = c.args.log.now.entries in
    let index = c.args.index.now in
    let ledger = c.args.ledger.now in
    on_err c.take_replacement.result _ _ (λ kept. left index ledger entries e c.args.at c.requires c.take_replacement.new.ledger c.take_replacement.ensures.before (kept (past entries (c.args.at - 1)) (next_place index ledger entries e c.args.at c.requires) c.requires.kept.is_kept)) c.take_replacement.ensures.err

pub returns-in_ok-facts-in-Write-clause-same : goal.returns-in_ok-facts-in-Write-clause-same
returns-in_ok-facts-in-Write-clause-same c = λ same.
    let e = c.args.entry.now in
    let entries = c.args.log.now.entries in
    let index = c.args.index.now in
    let ledger = c.args.ledger.now in
    let es = past entries (c.args.at - 1) in
    let w = c.in-Write.write in
    let step = write_is_step c.currents.ensures.unwritten ledger e es c.args.at (next_place index ledger entries e c.args.at c.requires) c.requires.kept.is_kept w (ap as_write c.in-Write.is) (ap as_put c.in-Write.is) in
    let now = c.in_ok-facts-in-Write.ensures.facts c.args.at c.requires.high c.requires.index ∙ ap (λ (l : List Entry). document_facts (current l w.doc)) c.requires.newest in
    c.take.ensures.same (same_step ledger c.args.at (document w.doc) _ e es step (gave_next entries e c.args.at c.requires.newest same) ∙ sym now)

pub returns-in_default-clause-same : goal.returns-in_default-clause-same
returns-in_default-clause-same c = λ same.
    let e = c.args.entry.now in
    let entries = c.args.log.now.entries in
    c.take_put.ensures.same (past entries (c.args.at - 1)) (next_place c.args.index.now c.args.ledger.now entries e c.args.at c.requires) c.requires.kept.is_kept
    (gave_next entries e c.args.at c.requires.newest same)

pub returns-in-Sync-clause-same : goal.returns-in-Sync-clause-same
returns-in-Sync-clause-same c = λ same.
    let e = c.args.entry.now in
    let entries = c.args.log.now.entries in
    let index = c.args.index.now in
    let ledger = c.args.ledger.now in
    let es = past entries (c.args.at - 1) in
    c.take_replacement.ensures.same e es
    (subst (λ (marks : List Mark). IsMarking ledger c.args.at marks (by_marks index marks 0) e es) (sym c.as_slice.ensures) (marking_next index ledger entries e c.args.at c.requires _ _ c.in-Sync.is))
    (gave_next entries e c.args.at c.requires.newest same)
