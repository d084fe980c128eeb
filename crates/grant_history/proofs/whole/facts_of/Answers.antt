use Rattle.std.proofs.Common.{◌≡◌, ◌∙◌, ◌-◌, sym, ap, arith, get_or, Option, Some}
use Rattle.std.specs.Prelude.{slice_get}
use Rattle.std.proofs.lemmas.Option.{slice_get-get_or}
use Rattle.std.proofs.lemmas.Result.{IfOk-weaker}
use Rattle.sg_history.specs.declared.entries.Entry.{Entry}
use Rattle.sg_history.specs.declared.entries.Entry.TheVariants as entry
use Rattle.sg_history.specs.History.{past}
use Rattle.log_views.specs.States.{since_by}
use Rattle.grant_history.specs.Ledger.{facts_read_in}
use Rattle.grant_history.specs.NewStates.{state_of}
use Rattle.grant_history.proofs.Applied.{no_document, read_low, read_within, document_read}
use Rattle.grant_history.proofs.Standing.{MarkLaws}
use Rattle.grant_history.proofs.whole.facts_of.Goals as goal

pub returns-in-None : goal.returns-in-None
returns-in-None c = λ n doc high same.
    c.new.ensures.items ∙ no_document c.args.entries.now n doc high (sym same ∙ c.in-None.is)

pub returns-in-Some : goal.returns-in-Some
returns-in-Some c = IfOk-weaker c.of_any_entry.result _ _ (λ list is n doc high same.
    let laws : MarkLaws = record { effects = c.marks.ensures.effects; there = c.marks.ensures.there; after = c.marks.ensures.after; within = c.marks.ensures.within } in
    let entries = c.args.entries.now in
    let s = c.in-Some.state in
    let at : state_of (past entries n) doc ≡ Some s = sym same ∙ c.in-Some.is in
    let e = get_or entries (since_by s.marked s.winning - 1) entry.Unused in
    let read : slice_get entries (since_by s.marked s.winning - 1) ≡ Some e =
    slice_get-get_or entries (since_by s.marked s.winning - 1) entry.Unused (omega (arith, read_low entries n doc high laws s at, read_within entries n doc high laws s at)) in
    is
    ∙ ap (λ (o : Option Entry). facts_read_in o s.marked) (c.entry_of.ensures ∙ read)
    ∙ document_read entries n doc high laws s at e read) c.of_any_entry.ensures
