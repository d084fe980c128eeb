use Rattle.std.proofs.Common.{◌∙◌, sym, subst, List}
use Rattle.grant_history.specs.inner.Changes.{DocumentFacts, AreChanges}
use Rattle.grant_tracks.proofs.Tracked.{on_ok}
use Rattle.grant_history.proofs.Marking.{marking_none, marking_others}
use Rattle.grant_history.proofs.Standing.{MarkLaws}
use Rattle.grant_history.proofs.changes.take_marked.Goals as goal

pub take_documents-taken-requires : goal.take_documents-taken-requires
take_documents-taken-requires c =
    let laws : MarkLaws = record { effects = c.marks.ensures.effects; there = c.marks.ensures.there; after = c.marks.ensures.after; within = c.marks.ensures.within } in
    let e = c.requires.0 in
    let es = c.requires.1 in
    let is = c.requires.2 in (
      e,
      es,
      subst (λ (cs : List DocumentFacts). AreChanges c.args.ledger.now c.args.at cs e es) (sym c.in_ok-changes.ensures)
          (marking_others c.currents.ensures.unwritten laws e es c.args.marks.now is.has c.args.ledger.now c.args.at c.args.states.now is),
    )

pub returns-clause-ok : goal.returns-clause-ok
returns-clause-ok c =
    let laws : MarkLaws = record { effects = c.marks.ensures.effects; there = c.marks.ensures.there; after = c.marks.ensures.after; within = c.marks.ensures.within } in
    on_ok c.take_documents-taken.result _ _ (λ takes e es is. takes e es
    (subst (λ (cs : List DocumentFacts). AreChanges c.args.ledger.now c.args.at cs e es) (sym c.in_ok-changes.ensures)
    (marking_others c.currents.ensures.unwritten laws e es c.args.marks.now is.has c.args.ledger.now c.args.at c.args.states.now is))) c.take_documents-taken.ensures.ok

pub returns-clause-same : goal.returns-clause-same
returns-clause-same c = λ e es is same.
    let laws : MarkLaws = record { effects = c.marks.ensures.effects; there = c.marks.ensures.there; after = c.marks.ensures.after; within = c.marks.ensures.within } in
    c.take_documents-taken.ensures.same
    (c.in_ok-changes.ensures ∙ marking_none c.currents.ensures.unwritten laws e es c.args.marks.now is.has c.args.ledger.now c.args.at c.args.states.now is same)
