use Rattle.std.proofs.Common.{◌≡◌, ◌∙◌, sym, ap, subst, arith, List, Option, Some, Bor}
use Rattle.std.specs.Option.{option_copied}
use Rattle.std.specs.Prelude.{slice_get}
use Rattle.std.proofs.lemmas.List.{length-take-le}
use Rattle.std.proofs.lemmas.Option.{slice_get-get_or}
use Rattle.std.proofs.lemmas.Result.{on_ok_weaker}
use Rattle.sg_history.specs.declared.entries.Entry.{Entry}
use Rattle.sg_history.specs.declared.entries.Entry.TheVariants as entry
use Rattle.sg_history.specs.declared.entries.Write.{Write}
use Rattle.feed_rows.specs.PassAt.{IsViewer, PassAt}
use Rattle.feed_rows.proofs.Places.{past_next}
use Rattle.feed_rows.proofs.pass.take.Goals as goal

pub take_marks-requires-clause-unwritten : goal.take_marks-requires-clause-unwritten
take_marks-requires-clause-unwritten c = sym c.as_write.ensures.write ∙ ap (λ (o : Option (Bor Write)). option_copied o) c.in-None.is

pub take_marks-requires-clause-viewer : goal.take_marks-requires-clause-viewer
take_marks-requires-clause-viewer c =
    let entries = c.args.entries.now in
    let i = c.args.i in
    let e = c.index-entries-i.result in
    let is : slice_get entries i ≡ Some e = slice_get-get_or entries i e c.requires.within ∙ ap (λ (x : Entry). Some x) (sym c.index-entries-i.is) in
    subst (λ (es : List Entry). IsViewer c.args.viewer.now es) (past_next entries i e is) c.requires.viewer

pub take_write-requires-clause-viewer : goal.take_write-requires-clause-viewer
take_write-requires-clause-viewer c =
    let entries = c.args.entries.now in
    let i = c.args.i in
    let e = c.index-entries-i.result in
    let w = c.in-Some.write.now in
    let here : e ≡ entry.Write w =
    c.as_write.ensures.only w (sym c.as_write.ensures.write ∙ ap (λ (o : Option (Bor Write)). option_copied o) c.in-Some.is) in
    let is : slice_get entries i ≡ Some (entry.Write w) =
    slice_get-get_or entries i e c.requires.within ∙ ap (λ (x : Entry). Some x) (sym c.index-entries-i.is ∙ here) in
    subst (λ (es : List Entry). IsViewer c.args.viewer.now es) (past_next entries i (entry.Write w) is) c.requires.viewer

pub take_write-requires-clause-since : goal.take_write-requires-clause-since
take_write-requires-clause-since c =
    let entries = c.args.entries.now in
    let i = c.args.i in
    let e = c.index-entries-i.result in
    let w = c.in-Some.write.now in
    let here : e ≡ entry.Write w =
    c.as_write.ensures.only w (sym c.as_write.ensures.write ∙ ap (λ (o : Option (Bor Write)). option_copied o) c.in-Some.is) in
    let is : slice_get entries i ≡ Some (entry.Write w) =
    slice_get-get_or entries i e c.requires.within ∙ ap (λ (x : Entry). Some x) (sym c.index-entries-i.is ∙ here) in
    let since = (c.latest_after.ensures w is c.requires.state).1 in
    omega (arith, since, length-take-le i entries (omega (arith, c.requires.within)))

pub take_write-requires-clause-state : goal.take_write-requires-clause-state
take_write-requires-clause-state c =
    let entries = c.args.entries.now in
    let i = c.args.i in
    let e = c.index-entries-i.result in
    let w = c.in-Some.write.now in
    let here : e ≡ entry.Write w =
    c.as_write.ensures.only w (sym c.as_write.ensures.write ∙ ap (λ (o : Option (Bor Write)). option_copied o) c.in-Some.is) in
    let is : slice_get entries i ≡ Some (entry.Write w) =
    slice_get-get_or entries i e c.requires.within ∙ ap (λ (x : Entry). Some x) (sym c.index-entries-i.is ∙ here) in
    (c.latest_after.ensures w is c.requires.state).0

pub returns-in-None : goal.returns-in-None
returns-in-None c =
    let entries = c.args.entries.now in
    let i = c.args.i in
    let e = c.index-entries-i.result in
    let is : slice_get entries i ≡ Some e = slice_get-get_or entries i e c.requires.within ∙ ap (λ (x : Entry). Some x) (sym c.index-entries-i.is) in
    subst (λ (es : List Entry). PassAt es c.args.viewer.now c.take_marks.new.pass) (sym (past_next entries i e is)) c.take_marks.ensures

pub returns-in-Some : goal.returns-in-Some
returns-in-Some c =
    let entries = c.args.entries.now in
    let i = c.args.i in
    let e = c.index-entries-i.result in
    let w = c.in-Some.write.now in
    let here : e ≡ entry.Write w =
    c.as_write.ensures.only w (sym c.as_write.ensures.write ∙ ap (λ (o : Option (Bor Write)). option_copied o) c.in-Some.is) in
    let is : slice_get entries i ≡ Some (entry.Write w) =
    slice_get-get_or entries i e c.requires.within ∙ ap (λ (x : Entry). Some x) (sym c.index-entries-i.is ∙ here) in
    on_ok_weaker c.take_write.result (λ known. subst (λ (es : List Entry). PassAt es c.args.viewer.now c.take_write.new.pass) (sym (past_next entries i (entry.Write w) is)) known) c.take_write.ensures
