use Rattle.std.proofs.Common.{◌≡◌, ◌∙◌, ◌-◌, sym, ap, arith, ℕ, Some}
use Rattle.std.specs.Prelude.{slice_get}
use Rattle.std.proofs.lemmas.Result.{IfOk-weaker}
use Rattle.sg_history.specs.History.{past}
use Rattle.grant_history.specs.NewStates.{state_of}
use Rattle.grant_history.proofs.Applied.{no_document, read_low, read_within, document_read}
use Rattle.grant_history.proofs.Standing.{MarkLaws}
use Rattle.grant_history.proofs.history.document_facts.Goals as goal

pub entry-requires-clause-low : goal.entry-requires-clause-low
entry-requires-clause-low c =
    let laws : MarkLaws = record { effects = c.marks.ensures.effects; there = c.marks.ensures.there; after = c.marks.ensures.after; within = c.marks.ensures.within } in
    let n = c.requires.0 in
    let at : state_of (past c.args.log.now.entries n) c.args.doc.now ≡ Some c.in-Some.state = sym (c.state_of.ensures ∙ ap (λ es. state_of es c.args.doc.now) c.requires.2) ∙ c.in-Some.is in
    omega (arith, read_low c.args.log.now.entries n c.args.doc.now c.requires.1 laws c.in-Some.state at, c.since.ensures)

pub entry-requires-clause-high : goal.entry-requires-clause-high
entry-requires-clause-high c =
    let laws : MarkLaws = record { effects = c.marks.ensures.effects; there = c.marks.ensures.there; after = c.marks.ensures.after; within = c.marks.ensures.within } in
    let n = c.requires.0 in
    let at : state_of (past c.args.log.now.entries n) c.args.doc.now ≡ Some c.in-Some.state = sym (c.state_of.ensures ∙ ap (λ es. state_of es c.args.doc.now) c.requires.2) ∙ c.in-Some.is in
    omega (arith, read_within c.args.log.now.entries n c.args.doc.now c.requires.1 laws c.in-Some.state at, c.since.ensures)

pub returns-in-Some-clause-facts : goal.returns-in-Some-clause-facts
returns-in-Some-clause-facts c = IfOk-weaker c.of_entry.result _ _ (λ list is n high indexed.
    let laws : MarkLaws = record { effects = c.marks.ensures.effects; there = c.marks.ensures.there; after = c.marks.ensures.after; within = c.marks.ensures.within } in
    let at : state_of (past c.args.log.now.entries n) c.args.doc.now ≡ Some c.in-Some.state = sym (c.state_of.ensures ∙ ap (λ es. state_of es c.args.doc.now) indexed) ∙ c.in-Some.is in
    is ∙ document_read c.args.log.now.entries n c.args.doc.now high laws c.in-Some.state at c.entry.result.now (ap (λ (m : ℕ). slice_get c.args.log.now.entries (m - 1)) (sym c.since.ensures) ∙ c.entry.ensures.entry)) c.of_entry.ensures

pub returns-in-None-clause-facts : goal.returns-in-None-clause-facts
returns-in-None-clause-facts c = λ n high indexed.
    c.new.ensures.items ∙ no_document c.args.log.now.entries n c.args.doc.now high (sym (c.state_of.ensures ∙ ap (λ es. state_of es c.args.doc.now) indexed) ∙ c.in-None.is)
